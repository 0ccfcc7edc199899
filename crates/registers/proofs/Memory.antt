-- Rows of words in one memory, and loops over a row.
use Rattle.std.proofs.Common.{◌≡◌, ℕ, ◌+◌, ◌*◌, ◌%◌, ◌<◌, ◌≤◌, List, length, get_or, take, drop, sym, ap, ◌∙◌, inl, inr, mul-le-mul_right, add-mul, one-mul, arith, rules}
use borrow.Rule.Slice.PartMut.{put_mid}
use Rattle.std.proofs.lemmas.List.FromFn.{fill_by_all}
use Rattle.std.proofs.lemmas.List.{length-take, length-drop, places}
use Rattle.std.proofs.lemmas.Slice.{take-put_mid_below, drop-put_mid, between-put_mid, between_is}
use Rattle.std.proofs.lemmas.Bool.{cases_lt, cases_eq}
use Rattle.algebra.specs.Words.{words}
use Rattle.registers.specs.Registers.{row_at, reduced}

-- a row below the count lies within the memory
pub row_fits : (x w v count n : ℕ) → w ≡ v → n ≡ count * v → x < count → x * w + w ≤ n
row_fits x w v count n e l h =
    let m : (x + 1) * w ≤ count * w = mul-le-mul_right w (omega arith) in
    let k : n ≡ count * w = l ∙ ap (λ (i : ℕ). count * i) (sym e) in
    omega (arith, add-mul x 1 w, one-mul w)

module _ (w : ℕ) (memory : List ℕ) where
  pub row_long : (x : ℕ) → x * w + w ≤ length memory → length (row_at w x memory) ≡ w
  row_long x h = simp (length-take, length-drop) (omega arith)

  -- what is put is there
  module _ (a : ℕ) (fits : a + w ≤ length memory) (new : List ℕ) (long : length new ≡ w) where
    pub put-there : take w (drop a (put_mid a w memory new)) ≡ new
    put-there =
        ap (λ (k : ℕ). take k (drop a (put_mid a w memory new))) (omega arith)
        ∙ between-put_mid a w memory new (a + w) (omega arith) (omega arith)

-- a row of remainders
pub reduced_from : (w q : ℕ) (row out : List ℕ) → length out ≡ w → ((k : ℕ) → k < w → get_or out k 0 ≡ get_or row k 0 % q) → out ≡ reduced w q row
unfolding words
reduced_from w q row out e f = fill_by_all (λ k. get_or row k 0 % q) out w 0 e f

-- what a write of register z leaves: as many words, z anew, and every other register as it was
module _ (w z : ℕ) (memory new : List ℕ) (fits : z * w + w ≤ length memory) (long : length new ≡ w) where
  pub put_long : length (put_mid (z * w) w memory new) ≡ length memory
  put_long = search (rules, places)

  pub put_same : row_at w z (put_mid (z * w) w memory new) ≡ new
  put_same = put-there w memory (z * w) fits new long

  pub put_other : (x : ℕ) → (x ≡ z → ⊥) → row_at w x (put_mid (z * w) w memory new) ≡ row_at w x memory
  put_other x apart = elim (cases_lt x z) [
    | inl l ↦
        (let before : x * w + w ≤ z * w = (let m : (x + 1) * w ≤ z * w = mul-le-mul_right w (omega arith) in omega (arith, add-mul x 1 w, one-mul w)) in
        let cut : (t : List ℕ) → row_at w x t ≡ drop (x * w) (take (x * w + w) t) =
        λ t. ap (λ (k : ℕ). take k (drop (x * w) t)) (omega arith) ∙ between_is t (x * w) (x * w + w) in
        cut (put_mid (z * w) w memory new)
        ∙ ap (drop (x * w)) (take-put_mid_below (z * w) w memory new (x * w + w) before (omega arith))
        ∙ sym (cut memory))
    | inr g ↦
        (let after : z * w + w ≤ x * w =
        (let m : (z + 1) * w ≤ x * w = mul-le-mul_right w (let n : z < x = elim (cases_eq x z) [ inl e ↦ absurd (apart e) | inr n ↦ omega arith ] in omega arith) in omega (arith, add-mul z 1 w, one-mul w)) in
        ap (take w) (drop-put_mid (z * w) w memory new (x * w) after (omega arith) long))
  ]
