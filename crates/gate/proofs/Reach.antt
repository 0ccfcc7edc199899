-- Registers within their memory.
use Rattle.std.proofs.Common.{◌≡◌, ℕ, ◌+◌, ◌-◌, ◌*◌, ◌≤◌, max, List, ◌++◌, length, take, drop, sym, ap, ap₂, ◌∙◌, mul-le-mul_right, arith, length-take}
use borrow.Rule.Slice.PartMut.{put_mid}
use Rattle.std.proofs.lemmas.List.{take_at, drop_at, drop-drop}
use Rattle.set.specs.declared.numbers.Numbers.{Numbers}
use Rattle.gate.specs.Lengths.{words_of}
use Rattle.gate.specs.Gates.{reach_of, register_at, with_register}

-- a register no higher than the top one
under : (i top w len : ℕ) → i ≤ top → (top + 1) * w ≤ len → i * w + w ≤ len
under i top w len h l = let k : (i + 1) * w ≤ (top + 1) * w = mul-le-mul_right w (omega arith) in omega arith

module _ (n : Numbers) (x y z len : ℕ) (e : len ≡ max len (reach_of n x y z)) where
  within : reach_of n x y z ≤ len
  within = omega arith

  pub x_within : x * words_of n + words_of n ≤ len
  x_within = under x (max (max x y) z) (words_of n) len (omega arith) within

  pub y_within : y * words_of n + words_of n ≤ len
  y_within = under y (max (max x y) z) (words_of n) len (omega arith) within

  pub z_within : z * words_of n + words_of n ≤ len
  z_within = under z (max (max x y) z) (words_of n) len (omega arith) within

-- the new words stand at their register
pub register_new : (n : Numbers) (registers new : List ℕ) (z : ℕ) → z * words_of n + words_of n ≤ length registers → length new ≡ words_of n
    → register_at n (with_register n registers z new) z ≡ new
register_new n registers new z l e =
    let a : ℕ = z * words_of n in
    let front : length (take (z * words_of n) registers) ≡ z * words_of n = length-take a registers ∙ omega arith in
    ap (take (words_of n)) (drop_at (take a registers) (new ++ drop (a + words_of n) registers) a front)
    ∙ take_at new (drop (a + words_of n) registers) (words_of n) e

-- what a write to a part of the registers leaves
pub put_register : (n : Numbers) (registers new : List ℕ) (z m : ℕ) → m ≡ words_of n
    → put_mid (z * m) (z * m + m - z * m) registers new ≡ with_register n registers z new
put_register n registers new z m e =
    ap (λ (w : ℕ). put_mid (z * w) (z * w + w - z * w) registers new) e
    ∙ ap (λ (k : ℕ). put_mid (z * words_of n) k registers new) {x = z * words_of n + words_of n - z * words_of n} {y = words_of n} (omega arith)
    ∙ ap (λ (v : List ℕ). take (z * words_of n) registers ++ (new ++ v)) (drop-drop (words_of n) (z * words_of n) registers)

-- a register that is written twice
pub register_again : (n : Numbers) (registers old new : List ℕ) (z : ℕ) → z * words_of n + words_of n ≤ length registers → length old ≡ words_of n
    → with_register n (with_register n registers z old) z new ≡ with_register n registers z new
register_again n registers old new z l e =
    let a : ℕ = z * words_of n in
    let w : ℕ = words_of n in
    let rest : List ℕ = drop (a + w) registers in
    let front : length (take (z * words_of n) registers) ≡ z * words_of n = length-take a registers ∙ omega arith in
    ap₂ (λ (u v : List ℕ). u ++ (new ++ v))
    (take_at (take a registers) (old ++ rest) a front)
    (sym (drop-drop w a (with_register n registers z old)) ∙ ap (drop w) (drop_at (take a registers) (old ++ rest) a front) ∙ drop_at old rest w e)
