-- One step of the split, as the machine computes it.
use Rattle.std.proofs.Common.{◌≡◌, ℕ, zero, suc, ◌*◌, ◌/◌, ◌^◌, ◌≤◌, true, false, ℤ, pos, ◌+ℤ◌, ◌-ℤ◌, ◌*ℤ◌, ◌≤ℤ◌, ◌<ℤ◌, sym, refl, ap, ◌∙◌, arith, pow_mono, w64, SFits, to_z, of_z}
use lib.IntN.{*ℤ_comm}
use lib.Signed.{lt_z}
use Rattle.std.proofs.lemmas.Int.{ints, to_z-of_z}
use Rattle.std.proofs.lemmas.Nat.{pow_pos, pow_below}
use Rattle.algebra.specs.Ints.{floor_z}
use Rattle.algebra.specs.Digits.{rest_of, digit_of}
use Rattle.words.specs.Gadgets.{StepRight}
use Rattle.algebra.proofs.Digits.{floor_is}
use Rattle.words.proofs.Floors.{floor_unique, floor_fits, product_fits, times_next}

-- tests of signed numbers
less_of : (a b : ℤ) → lt_z a b ≡ true → a <ℤ b
less_of a b h = grind (arith, ints)

most_of : (a b : ℤ) → lt_z a b ≡ false → b ≤ℤ a
most_of a b h = grind (arith, ints)

-- a base of at most 16 bits
pub base_small : (w : ℕ) → w ≤ 16 → 2 ^ w ≤ 65536
base_small w h = let p = pow_below w 17 (omega arith) in half w h
  where
    half : (k : ℕ) → k ≤ 16 → 2 ^ k ≤ 2 ^ 16
    half k l = pow_mono l

base_fits : (w : ℕ) → w ≤ 16 → SFits w64 (pos (2 ^ w))
base_fits w h = let s = base_small w h in omega (arith, ints)

-- an even base is twice its half
pub base_even : (w : ℕ) → 1 ≤ w → 2 ^ w ≡ 2 * (2 ^ w / 2)
base_even zero h = absurd (omega arith)
base_even (suc w) h = omega arith

-- the quotient and the base, through the bits of an i64
floor_kept : (u f : ℤ) (w : ℕ) → SFits w64 u → f ≡ floor_z u (2 ^ w) → to_z w64 (of_z w64 f) ≡ floor_z u (2 ^ w)
floor_kept u f w s e = ap (λ (z : ℤ). to_z w64 (of_z w64 z)) e ∙ to_z-of_z w64 (floor_z u (2 ^ w)) (floor_fits u (2 ^ w) (pow_pos w) s)

base_kept : (b : ℤ) (w : ℕ) → w ≤ 16 → b ≡ pos (2 ^ w) → to_z w64 (of_z w64 b) ≡ pos (2 ^ w)
base_kept b w h e = ap (λ (z : ℤ). to_z w64 (of_z w64 z)) e ∙ to_z-of_z w64 (pos (2 ^ w)) (base_fits w h)

pub product_right : (u f b : ℤ) (w : ℕ) → w ≤ 16 → SFits w64 u → f ≡ floor_z u (2 ^ w) → b ≡ pos (2 ^ w)
    → SFits w64 (to_z w64 (of_z w64 f) *ℤ to_z w64 (of_z w64 b))
product_right u f b w h s e k = rw (floor_kept u f w s e, base_kept b w h k) (product_fits u w h s)

product_is : (u f b : ℤ) (w : ℕ) → w ≤ 16 → SFits w64 u → f ≡ floor_z u (2 ^ w) → b ≡ pos (2 ^ w)
    → to_z w64 (of_z w64 (to_z w64 (of_z w64 f) *ℤ to_z w64 (of_z w64 b))) ≡ pos (2 ^ w) *ℤ floor_z u (2 ^ w)
product_is u f b w h s e k =
    to_z-of_z w64 (to_z w64 (of_z w64 f) *ℤ to_z w64 (of_z w64 b)) (product_right u f b w h s e k)
    ∙ rw (floor_kept u f w s e, base_kept b w h k) (*ℤ_comm (floor_z u (2 ^ w)) (pos (2 ^ w)))

-- what the quotient leaves lies from 0 to the base
pub left_low : (u : ℤ) (w : ℕ) → pos 0 ≤ℤ (u -ℤ pos (2 ^ w) *ℤ floor_z u (2 ^ w))
left_low u w = let f = floor_is u (2 ^ w) (pow_pos w) in omega (arith, ints)

pub left_high : (u : ℤ) (w : ℕ) → (u -ℤ pos (2 ^ w) *ℤ floor_z u (2 ^ w)) <ℤ pos (2 ^ w)
left_high u w = let f = floor_is u (2 ^ w) (pow_pos w) in omega (arith, ints)

small_fits : (z : ℤ) (b : ℕ) → b ≤ 65536 → pos 0 ≤ℤ z → z <ℤ pos b → SFits w64 z
small_fits z b h low high = omega (arith, ints)

module _ (u f b : ℤ) (w : ℕ) (few : w ≤ 16) (s : SFits w64 u) (e : f ≡ floor_z u (2 ^ w)) (k : b ≡ pos (2 ^ w)) where
  difference : to_z w64 (of_z w64 u) -ℤ to_z w64 (of_z w64 (to_z w64 (of_z w64 f) *ℤ to_z w64 (of_z w64 b))) ≡ u -ℤ pos (2 ^ w) *ℤ floor_z u (2 ^ w)
  difference = rw (to_z-of_z w64 u s, product_is u f b w few s e k) refl

  pub left_fits : SFits w64 (to_z w64 (of_z w64 u) -ℤ to_z w64 (of_z w64 (to_z w64 (of_z w64 f) *ℤ to_z w64 (of_z w64 b))))
  left_fits = rw difference (small_fits _ (2 ^ w) (base_small w few) (left_low u w) (left_high u w))

  pub left_is : to_z w64 (of_z w64 (to_z w64 (of_z w64 u) -ℤ to_z w64 (of_z w64 (to_z w64 (of_z w64 f) *ℤ to_z w64 (of_z w64 b))))) ≡ u -ℤ pos (2 ^ w) *ℤ floor_z u (2 ^ w)
  left_is = to_z-of_z w64 _ left_fits ∙ difference

-- the digit is what is left, or what is left less the base
module _ (u : ℤ) (w : ℕ) (some : 1 ≤ w) where
  rest_low : let l = u -ℤ pos (2 ^ w) *ℤ floor_z u (2 ^ w) in (l +ℤ l) <ℤ pos (2 ^ w) → rest_of (2 ^ w) u ≡ floor_z u (2 ^ w)
  rest_low h =
      let f = floor_is u (2 ^ w) (pow_pos w) in
      let e = base_even w some in
      floor_unique (u +ℤ pos (2 ^ w / 2)) (floor_z u (2 ^ w)) (2 ^ w) (pow_pos w) (omega (arith, ints)) (omega (arith, ints))

  rest_high : let l = u -ℤ pos (2 ^ w) *ℤ floor_z u (2 ^ w) in pos (2 ^ w) ≤ℤ (l +ℤ l) → rest_of (2 ^ w) u ≡ floor_z u (2 ^ w) +ℤ pos 1
  rest_high h =
      let f = floor_is u (2 ^ w) (pow_pos w) in
      let e = base_even w some in
      let t = times_next (2 ^ w) (floor_z u (2 ^ w)) in
      floor_unique (u +ℤ pos (2 ^ w / 2)) (floor_z u (2 ^ w) +ℤ pos 1) (2 ^ w) (pow_pos w) (rw t (omega (arith, ints))) (rw t (omega (arith, ints)))

  pub right_of : (digit rest : ℤ) → digit ≡ digit_of (2 ^ w) u → rest ≡ rest_of (2 ^ w) u → StepRight (2 ^ w) u digit rest
  right_of digit rest d r =
      let f = floor_is (u +ℤ pos (2 ^ w / 2)) (2 ^ w) (pow_pos w) in
      let e = base_even w some in
      record {
        whole = rw (d, r) (omega (arith, ints));
        low = rw d (omega (arith, ints));
        high = rw d (omega (arith, ints));
      }

  pub digit_low : let l = u -ℤ pos (2 ^ w) *ℤ floor_z u (2 ^ w) in (l +ℤ l) <ℤ pos (2 ^ w)
      → (l ≡ digit_of (2 ^ w) u) × (floor_z u (2 ^ w) ≡ rest_of (2 ^ w) u)
  digit_low h = let r = rest_low h in (rw r refl, sym r)

  pub digit_high : let l = u -ℤ pos (2 ^ w) *ℤ floor_z u (2 ^ w) in pos (2 ^ w) ≤ℤ (l +ℤ l)
      → (l -ℤ pos (2 ^ w) ≡ digit_of (2 ^ w) u) × (floor_z u (2 ^ w) +ℤ pos 1 ≡ rest_of (2 ^ w) u)
  digit_high h =
      let r = rest_high h in
      let t = times_next (2 ^ w) (floor_z u (2 ^ w)) in
      (rw (r, t) (omega (arith, ints)), sym r)

-- the same, of results that are read through the bits of an i64
module _ (u f l b : ℤ) (w : ℕ) (few : w ≤ 16) (some : 1 ≤ w) (s : SFits w64 u) (e : f ≡ floor_z u (2 ^ w)) (k : b ≡ pos (2 ^ w))
    (r : l ≡ u -ℤ pos (2 ^ w) *ℤ floor_z u (2 ^ w)) where
  left_kept : to_z w64 (of_z w64 l) ≡ u -ℤ pos (2 ^ w) *ℤ floor_z u (2 ^ w)
  left_kept =
      ap (λ (z : ℤ). to_z w64 (of_z w64 z)) r
      ∙ to_z-of_z w64 _ (small_fits _ (2 ^ w) (base_small w few) (left_low u w) (left_high u w))

  twice_fits : (z : ℤ) (c : ℕ) → c ≤ 65536 → pos 0 ≤ℤ z → z <ℤ pos c → to_z w64 (of_z w64 (z +ℤ z)) ≡ z +ℤ z
  twice_fits z c h low high = omega (arith, ints)

  twice_kept : to_z w64 (of_z w64 (to_z w64 (of_z w64 l) +ℤ to_z w64 (of_z w64 l)))
      ≡ (u -ℤ pos (2 ^ w) *ℤ floor_z u (2 ^ w)) +ℤ (u -ℤ pos (2 ^ w) *ℤ floor_z u (2 ^ w))
  twice_kept = rw left_kept (twice_fits _ (2 ^ w) (base_small w few) (left_low u w) (left_high u w))

  pub step_low : lt_z (to_z w64 (of_z w64 (to_z w64 (of_z w64 l) +ℤ to_z w64 (of_z w64 l)))) (to_z w64 (of_z w64 b)) ≡ true
      → (to_z w64 (of_z w64 l) ≡ digit_of (2 ^ w) u) × (to_z w64 (of_z w64 f) ≡ rest_of (2 ^ w) u)
  step_low h =
      let d = digit_low u w some (rw (twice_kept, base_kept b w few k) at (less_of (to_z w64 (of_z w64 (to_z w64 (of_z w64 l) +ℤ to_z w64 (of_z w64 l)))) (to_z w64 (of_z w64 b)) h)) in
      (left_kept ∙ d.0, floor_kept u f w s e ∙ d.1)

  less_fits : (z : ℤ) (c : ℕ) → c ≤ 65536 → pos 0 ≤ℤ z → z <ℤ pos c → to_z w64 (of_z w64 (z -ℤ pos c)) ≡ z -ℤ pos c
  less_fits z c h low high = omega (arith, ints)

  pub step_high : lt_z (to_z w64 (of_z w64 (to_z w64 (of_z w64 l) +ℤ to_z w64 (of_z w64 l)))) (to_z w64 (of_z w64 b)) ≡ false → SFits w64 (to_z w64 (of_z w64 f) +ℤ pos 1)
      → (to_z w64 (of_z w64 (to_z w64 (of_z w64 l) -ℤ to_z w64 (of_z w64 b))) ≡ digit_of (2 ^ w) u)
      × (to_z w64 (of_z w64 (to_z w64 (of_z w64 f) +ℤ pos 1)) ≡ rest_of (2 ^ w) u)
  step_high h t =
      let d = digit_high u w some (rw (twice_kept, base_kept b w few k) at (most_of (to_z w64 (of_z w64 (to_z w64 (of_z w64 l) +ℤ to_z w64 (of_z w64 l)))) (to_z w64 (of_z w64 b)) h)) in (
        rw (left_kept, base_kept b w few k) (less_fits _ (2 ^ w) (base_small w few) (left_low u w) (left_high u w) ∙ d.0),
        to_z-of_z w64 _ t ∙ ap (λ (z : ℤ). z +ℤ pos 1) (floor_kept u f w s e) ∙ d.1,
      )
