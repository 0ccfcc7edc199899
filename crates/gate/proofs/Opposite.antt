-- The opposite bit.
use Rattle.std.proofs.Common.{◌≡◌, ℕ, suc, ◌+◌, ◌-◌, ◌*◌, ◌/◌, ◌<◌, ◌≤◌, Bool, true, false, cond, not, eqb, ◌⊎◌, List, length, get_or, take, drop, set, ℤ, pos, ◌-ℤ◌, sym, refl, ap, ◌∙◌, subst, ap₂, inl, inr, mul-le-mul_right, arith, append_assoc, length-take, length-drop}
use lib.Seq.{paste}
use borrow.Rule.Slice.PartMut.{put_mid}
use Rattle.std.specs.List.{copy_within}
use Rattle.std.proofs.lemmas.List.Edits.{paste_more, paste_all}
use Rattle.std.proofs.lemmas.List.{get_or-take, get_or-drop}
use Rattle.std.proofs.lemmas.Bool.{cases_order}
use Rattle.algebra.specs.Words.{coeffs, word_of}
use Rattle.algebra.specs.Gates.{invert, Holds}
use Rattle.algebra.proofs.Words.{words_at, words_long}
use Rattle.algebra.proofs.Opening.{invert_holds}
use Rattle.set.specs.declared.numbers.Numbers.{Numbers}
use Rattle.set.specs.declared.within.Within.{Within}
use Rattle.sweeps.specs.Fit.{entries}
use Rattle.gate.specs.Letters.{num_of}
use Rattle.gate.specs.Lengths.{words_of}
use Rattle.gate.specs.Stages.{inverted_of}
use Rattle.gate.specs.Gates.{Apart, InvertHolds, register_at, with_register}
use Rattle.gate.proofs.Holding.{num_bit}
use Rattle.gate.proofs.Places.{head_at}
use Rattle.gate.proofs.Reach.{register_new, register_again, put_register}

pub inverts : (w : Within) (xs : List ℕ) → InvertHolds w xs (inverted_of w.numbers xs)
inverts w xs = record {
  holds = λ s V m h.
      let some : 0 < w.numbers.small = (let k = w.moduli.0 in omega arith) in
      subst (λ (b : ℕ). Holds w.numbers.dimension w.numbers.small V (entries s) b (inverted_of w.numbers xs)) (opposite m)
      (invert_holds w.numbers.dimension w.numbers.small V (num_of m) (entries s) xs some (num_bit m) h);
}
  where
    opposite : (b : Bool) → 1 - num_of b ≡ num_of (not b)
    opposite true = refl
    opposite false = refl

invert_at : (n q : ℕ) (xs : List ℕ) (i : ℕ) → i < n + 1 → get_or (invert n q xs) i 0 ≡ word_of q (cond (eqb i n) (pos (q / 4)) (pos 0) -ℤ coeffs xs i)
unfolding invert
invert_at n q xs i l = words_at (suc n) q _ i (omega arith)

pub invert_long : (n q : ℕ) (xs : List ℕ) → length (invert n q xs) ≡ n + 1
unfolding invert
invert_long n q xs = words_long (suc n) q _ ∙ omega arith

-- a turn of the loop within one memory
module _ (n q from to : ℕ) (old : List ℕ) where
  pub part_more : (i v : ℕ) → i < n + 1 → to + (n + 1) ≤ length old
      → v ≡ word_of q (pos (cond (eqb i n) (q / 4) 0) -ℤ pos (get_or old (from + i) 0))
      → set (paste old to (invert n q (take (n + 1) (drop from old))) i) (to + i) v ≡ paste old to (invert n q (take (n + 1) (drop from old))) (i + 1)
  part_more i v l room e =
      let row : List ℕ = take (n + 1) (drop from old) in
      let x : get_or (take (n + 1) (drop from old)) i 0 ≡ get_or old (from + i) 0 = get_or-take (n + 1) (drop from old) i 0 l ∙ get_or-drop from old i 0 in
      let val : v ≡ get_or (invert n q (take (n + 1) (drop from old))) i 0 =
      e ∙ ap₂ (λ (a : ℤ) (b : ℕ). word_of q (a -ℤ pos b)) (head_at i n (q / 4)) (sym x) ∙ sym (invert_at n q row i l) in
      ap (λ (y : ℕ). set (paste old to (invert n q row) i) (to + i) y) val
      ∙ paste_more old to (invert n q row) i 0 (omega arith) (subst (λ (m : ℕ). i < m) (sym (invert_long n q row)) l)

  pub apart_outside : (i : ℕ) → i < n + 1 → Apart (n + 1) from to → (from + i < to) ⊎ (to + i ≤ from + i)
  apart_outside i l (inl e) = inr (omega arith)
  apart_outside i l (inr (inl a)) = inl (omega arith)
  apart_outside i l (inr (inr b)) = inr (omega arith)

-- registers are apart, or the same
pub registers_apart : (x z w : ℕ) → Apart w (x * w) (z * w)
registers_apart x z w = elim (cases_order x z) [
  | inl e ↦ inl (ap (λ (i : ℕ). i * w) e)
  | inr o ↦ elim o [
    | inl l ↦ inr (inl (next x z l))
    | inr g ↦ inr (inr (next z x g))
  ]
]
  where
    next : (a b : ℕ) → a < b → a * w + w ≤ b * w
    next a b l = let k : (a + 1) * w ≤ b * w = mul-le-mul_right w (omega arith) in omega arith

-- the whole register
pub pasted_register : (n : Numbers) (registers : List ℕ) (x z : ℕ)
    → paste registers (z * words_of n) (inverted_of n (register_at n registers x)) (words_of n)
    ≡ with_register n registers z (inverted_of n (register_at n registers x))
pasted_register n registers x z =
    paste_all registers (z * words_of n) (inverted_of n (register_at n registers x)) (words_of n)
    (sym (invert_long n.dimension n.small (register_at n registers x)))

-- a register that is copied, and its copy inverted
pub inverted_register : (n : Numbers) (registers mid new : List ℕ) (x z m d q : ℕ)
    → x * words_of n + words_of n ≤ length registers → z * words_of n + words_of n ≤ length registers
    → m ≡ words_of n → d ≡ n.dimension → q ≡ n.small → mid ≡ copy_within registers (x * m) (x * m + m) (z * m)
    → new ≡ invert d q (take (z * m + m - z * m) (drop (z * m) mid))
    → put_mid (z * m) (z * m + m - z * m) mid new ≡ with_register n registers z (inverted_of n (register_at n registers x))
inverted_register n registers mid new x z m d q in_x in_z e f g h k =
    let w : ℕ = words_of n in
    let row : List ℕ = register_at n registers x in
    let row_long : length (register_at n registers x) ≡ words_of n =
    length-take (words_of n) (drop (x * words_of n) registers) ∙ omega (arith, length-drop (x * words_of n) registers) in
    let span : (a : ℕ) → a + words_of n - a ≡ words_of n = λ a. omega arith in
    let copied : mid ≡ with_register n registers z (register_at n registers x) =
    h ∙ ap (λ (i : ℕ). copy_within registers (x * i) (x * i + i) (z * i)) e
    ∙ ap (λ (i : ℕ). paste registers (z * w) (drop (x * w) registers) i) (span (x * w))
    ∙ append_assoc (take (z * w) registers) (take w (drop (x * w) registers)) (drop (z * w + w) registers) in
    let made : new ≡ inverted_of n (register_at n registers x) =
    k ∙ ap₂ (λ (i j : ℕ). invert i j (take (z * m + m - z * m) (drop (z * m) mid))) f g
    ∙ ap (λ (i : ℕ). inverted_of n (take (z * i + i - z * i) (drop (z * i) mid))) e
    ∙ ap (λ (i : ℕ). inverted_of n (take i (drop (z * w) mid))) (span (z * w))
    ∙ ap (λ (v : List ℕ). inverted_of n (register_at n v z)) copied
    ∙ ap (inverted_of n) (register_new n registers row z in_z row_long) in
    put_register n mid new z m e
    ∙ ap₂ (λ (u v : List ℕ). with_register n u z v) copied made
    ∙ register_again n registers row (inverted_of n row) z in_z row_long
