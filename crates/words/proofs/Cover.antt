-- The law of the split: under cover every digit is small, and the digits stand for the word but for the dropped part.
use Rattle.std.proofs.Common.{◌≡◌, ℕ, zero, suc, ◌*◌, ◌/◌, ◌^◌, ◌<◌, ◌≤◌, ◌⊎◌, ℤ, pos, ◌+ℤ◌, ◌-ℤ◌, ◌*ℤ◌, neg_ℤ, nat_abs, ◌≤ℤ◌, ◌<ℤ◌, sym, refl, ap, ◌∙◌, inl, inr, mul_assoc, mul-one, arith}
use native.Mathlib.Nat.{pow-succ', pow-zero}
use Rattle.std.specs.List.{AllByRecursion}
use Rattle.std.proofs.lemmas.Int.{ints}
use Rattle.std.proofs.lemmas.Nat.{pow_pos}
use Rattle.algebra.specs.Ints.{floor_z}
use Rattle.algebra.specs.Digits.{digit_of, rest_of}
use Rattle.words.specs.Digits.{centred_of, digits_of, value_of, scaled_of}
use Rattle.words.specs.Gadgets.{Within, SplitRight}
use Rattle.algebra.proofs.Digits.{floor_is, floor_bound}
use Rattle.words.proofs.Steps.{base_even}
use Rattle.words.proofs.Centred.{centred_right}

-- the digits stand for the number
pub digits_value : (B k : ℕ) (u : ℤ) → value_of B (digits_of B (suc k) u) ≡ u
unfolding value_of digits_of
digits_value B zero u = omega (arith, ints)
digits_value B (suc k) u = rw (digits_value B k (rest_of B u)) (omega (arith, ints))

within_of : (z : ℤ) (b : ℕ) → nat_abs z ≤ b → Within b z
within_of z b h = (omega (arith, ints), omega (arith, ints))

-- each digit but the last
digit_within : (B : ℕ) (u : ℤ) → 0 < B / 2 → B ≡ 2 * (B / 2) → Within (B / 2) (digit_of B u)
digit_within B u h e =
    let f = floor_is (u +ℤ pos (B / 2)) B (omega arith) in
    (omega (arith, ints), omega (arith, ints))

-- every digit, where the number is small enough
pub digits_within : (B k : ℕ) (u : ℤ) → 0 < B / 2 → B ≡ 2 * (B / 2) → nat_abs u ≤ B / 2 * B ^ k → AllByRecursion (Within (B / 2)) (digits_of B (suc k) u)
unfolding digits_of
digits_within B zero u h e s = (within_of u (B / 2) (rw (pow-zero B, mul-one (B / 2)) at s), tt)
digits_within B (suc k) u h e s =
    let m : B / 2 * B ^ suc k ≡ B * (B / 2 * B ^ k) = shuffle (B / 2) B (B ^ k) (B ^ suc k) (pow-succ' B k) in
    (digit_within B u h e, digits_within B k (rest_of B u) h e (floor_bound B (B / 2) (B / 2 * B ^ k) u (omega arith) (rw m at s)))
  where
    shuffle : (h B p q : ℕ) → q ≡ B * p → h * q ≡ B * (h * p)
    shuffle h B p q e = rw e (sym (mul_assoc h B p) ∙ ap (λ (n : ℕ). n * p) (native.Mathlib.Nat.mul_comm h B) ∙ mul_assoc B h p)

-- what is split of a word is small enough, where the digits cover
pub scaled_small : (R P h p : ℕ) (v : ℤ) → R ≤ P * (2 * h * p) → neg_ℤ (pos R) <ℤ (v +ℤ v) → (v +ℤ v) ≤ℤ pos R → nat_abs v ≤ P * (h * p)
scaled_small R P h p v cover above most =
    let e : P * (2 * h * p) ≡ 2 * (P * (h * p)) = twice P h p in
    omega (arith, ints)
  where
    twice : (P h p : ℕ) → P * (2 * h * p) ≡ 2 * (P * (h * p))
    twice P h p = ap (λ (n : ℕ). P * n) (mul_assoc 2 h p) ∙ sym (mul_assoc P 2 (h * p)) ∙ ap (λ (n : ℕ). n * (h * p)) (native.Mathlib.Nat.mul_comm P 2) ∙ mul_assoc 2 P (h * p)

-- P is 1 or even
part_even : (s : ℕ) → (2 ^ s ≡ 1) ⊎ (2 ^ s ≡ 2 * (2 ^ s / 2))
part_even zero = inl refl
part_even (suc s) = inr (base_even (suc s) (omega arith))

near_of : (P : ℕ) (v : ℤ) → 0 < P → (P ≡ 1) ⊎ (P ≡ 2 * (P / 2)) → Within (P / 2) (pos P *ℤ floor_z (v +ℤ pos (P / 2)) P -ℤ v)
near_of P v some e =
    let f = floor_is (v +ℤ pos (P / 2)) P some in
    elim e [
      | inl o ↦ (omega (arith, ints), omega (arith, ints))
      | inr t ↦ (omega (arith, ints), omega (arith, ints))
    ]

-- the law, for a gadget of P = 2^s, B = 2^w and d digits
pub split_right : (R s w d x : ℕ) → 0 < R → 1 ≤ w → 1 ≤ d → R ≤ 2 ^ s * (2 ^ w) ^ d → SplitRight R (2 ^ s) (2 ^ w) d x
split_right R s w zero x some base count cover = absurd (omega arith)
split_right R s w (suc k) x some base count cover =
    let c = centred_right R x some in
    let B = 2 ^ w in
    let even = base_even w base in
    let half : 0 < B / 2 = (let p = pow_pos w in omega arith) in
    let reach : R ≤ 2 ^ s * (2 * (B / 2) * B ^ k) = rw (sym even) (rw (pow-succ' B k) at cover) in
    let small = scaled_small R (2 ^ s) (B / 2) (B ^ k) (centred_of R x) reach c.above c.at_most in
    let part : 2 ^ s / 2 < 2 ^ s = (let p = pow_pos s in omega arith) in
    let u = scaled_of R (2 ^ s) x in
    let bound = floor_bound (2 ^ s) (2 ^ s / 2) (B / 2 * B ^ k) (centred_of R x) part small in
    record {
      small = digits_within B k u half even bound;
      near = rw (digits_value B k u) (near_of (2 ^ s) (centred_of R x) (pow_pos s) (part_even s));
    }
