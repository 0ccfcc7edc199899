-- Sweeps step by step: the parts of the exponents, and the keys of a step.
use Rattle.std.proofs.Common.{◌≡◌, ℕ, ◌+◌, ◌-◌, ◌*◌, ◌/◌, ◌<◌, ◌≤◌, List, ◌++◌, length, take, drop, sym, ap, ◌∙◌, mul-le-mul_right, mul-le-mul_left, mul-one, add-mul, one-mul, arith}
use Rattle.std.proofs.Math.Seq.{take-append_seam, drop-append_seam}
use Rattle.std.proofs.Math.Nat.{lt_of_mul-lt-mul_right, lt-div-mul-add, div-mul-le_self}
use Rattle.std.proofs.lemmas.List.{length-append, length-drop, drop-drop}
use Rattle.sweeps.proofs.Rows.{row_ends}

-- key j of `count` lies within their words
pub key_ends : (j d N count : ℕ) → j < count → (j * d + d) * N ≤ count * d * N
key_ends j d N count l = mul-le-mul_right N (row_ends j d count l)

-- part i + 1 of a list that is taken part by part
module _ (part i : ℕ) (xs rest taken left : List ℕ) (some : 0 < part) (from : rest ≡ drop (i * part) xs) (parted : rest ≡ taken ++ left) (long : length taken ≡ part) where
  pub part_is : taken ≡ take part (drop (i * part) xs)
  part_is =
      sym (take-append_seam taken left) ∙ ap (λ (n : ℕ). take n (taken ++ left)) long
      ∙ ap (λ (ys : List ℕ). take part ys) (sym parted ∙ from)

  pub part_left : left ≡ drop ((i + 1) * part) xs
  part_left =
      sym (drop-append_seam taken left) ∙ ap (λ (n : ℕ). drop n (taken ++ left)) long
      ∙ ap (λ (ys : List ℕ). drop part ys) (sym parted ∙ from) ∙ drop-drop part (i * part) xs
      ∙ ap (λ (n : ℕ). drop n xs) (omega (arith, add-mul i 1 part, one-mul part))

  pub part_within : (i + 1) * part ≤ length xs
  part_within =
      omega (arith, ap length from, ap length parted, length-drop (i * part) xs, length-append taken left, long, some, add-mul i 1 part, one-mul part)

-- how many parts a list has
module _ (part rounds i : ℕ) (some : 0 < part) where
  pub round_below : (i + 1) * part ≤ rounds * part → i < rounds
  round_below h = lt_of_mul-lt-mul_right part (omega (arith, h, some, add-mul i 1 part, one-mul part))

  pub round_last : i * part ≤ rounds * part → rounds * part - i * part < part → i ≡ rounds
  round_last h l =
      let a : i < rounds + 1 = lt_of_mul-lt-mul_right part (omega (arith, h, some, add-mul rounds 1 part, one-mul part)) in
      let b : rounds < i + 1 = lt_of_mul-lt-mul_right part (omega (arith, l, add-mul i 1 part, one-mul part)) in
      omega arith

-- the whole parts of `long` words
pub parts_last : (part long i : ℕ) → 0 < part → i * part ≤ long → long < i * part + part → i ≡ long / part
parts_last part long i some h l =
    let a : i < long / part + 1 = lt_of_mul-lt-mul_right part (omega (arith, h, lt-div-mul-add {a = long} some, add-mul (long / part) 1 part, one-mul part)) in
    let b : long / part < i + 1 = lt_of_mul-lt-mul_right part (omega (arith, l, div-mul-le_self long part, add-mul i 1 part, one-mul part)) in
    omega arith

pub rounds_few : (part rounds : ℕ) → 0 < part → rounds ≤ rounds * part
rounds_few part rounds some = let m = mul-le-mul_left rounds some in omega (arith, mul-one rounds)
