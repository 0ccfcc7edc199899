-- Signed numbers kept as words: their quotients and digits, and the words that they stand for.
use Rattle.std.proofs.Common.{◌≡◌, ℕ, ◌+◌, ◌-◌, ◌*◌, ◌/◌, ◌%◌, ◌^◌, ◌<◌, ◌≤◌, ℤ, pos, ◌+ℤ◌, ◌-ℤ◌, ◌*ℤ◌, neg_ℤ, nat_abs, sym, ap, ◌∙◌, inl, inr, mul-le-mul_right, mul_comm, add-mul, mul-le-mul_left, mul-one, arith}
use Rattle.std.proofs.lemmas.Int.{ints}
use Rattle.std.proofs.lemmas.Nat.{pow_pos, pow-add, shl-shr, div-add-mod', mod_below}
use Rattle.std.proofs.lemmas.Bool.{cases_order, lt-ltb, le-ltb}
use Rattle.algebra.specs.Ints.{floor_z}
use Rattle.algebra.specs.Digits.{centred, digit_of}
use Rattle.algebra.specs.Words.{word_of}
use Rattle.algebra.proofs.Ring.{distribˡ, negʳ}
use Rattle.algebra.proofs.Digits.{floor_bound}
use Rattle.algebra.proofs.Bridge.{word_is}
use Rattle.words.proofs.Floors.{floor_unique}
use Rattle.words.proofs.Steps.{base_even}
use Rattle.sweeps.specs.Held.{under, Held}

-- a word and the number that it keeps
pub under_is : (x : ℕ) → pos x ≡ under x +ℤ pos (2 ^ 31)
unfolding under
under_is x = omega (arith, ints)

pub under_from : (x : ℕ) (z : ℤ) → pos x ≡ z +ℤ pos (2 ^ 31) → under x ≡ z
unfolding under
under_from x z e = omega (arith, ints)

-- 2^31 in units of 2^w
pub top_is : (w : ℕ) → w ≤ 16 → 2 ^ 31 / 2 ^ w * 2 ^ w ≡ 2 ^ 31
top_is w h =
    let p : 2 ^ 31 ≡ 2 ^ (31 - w) * 2 ^ w = ap (λ (n : ℕ). 2 ^ n) {x = 31} {y = 31 - w + w} (omega arith) ∙ pow-add 2 (31 - w) w in
    let q : 2 ^ 31 / 2 ^ w ≡ 2 ^ (31 - w) = ap (λ (n : ℕ). n / 2 ^ w) p ∙ shl-shr (2 ^ (31 - w)) w in
    ap (λ (n : ℕ). n * 2 ^ w) q ∙ sym p

-- a multiple of a difference
apart : (B a e : ℕ) → pos B *ℤ (pos a -ℤ pos e) ≡ pos (a * B) -ℤ pos (e * B)
apart B a e =
    distribˡ (pos B) (pos a) (neg_ℤ (pos e)) ∙ ap (λ (z : ℤ). pos (B * a) +ℤ z) (negʳ (pos B) (pos e))
    ∙ omega (arith, ints, mul_comm B a, mul_comm B e)

-- the quotient of x + h, less that of 2^31
module _ (x B e h : ℕ) (some : 0 < B) (top : e * B ≡ 2 ^ 31) where
  pub floor_kept : (u : ℤ) → pos x ≡ u +ℤ pos (2 ^ 31) → floor_z (u +ℤ pos h) B ≡ pos ((x + h) / B) -ℤ pos e
  floor_kept u k =
      let d = div-add-mod' (x + h) B in
      let m = mod_below (x + h) B some in
      let a = apart B ((x + h) / B) e in
      floor_unique (u +ℤ pos h) (pos ((x + h) / B) -ℤ pos e) B some
      (rw a (omega (arith, ints))) (rw a (omega (arith, ints)))

  top_low : e ≤ 2 ^ 31
  top_low = let m = mul-le-mul_left e some in omega (arith, mul-one e)

  -- the word that the machine computes keeps the quotient
  pub quotient_word : (u : ℤ) → pos x ≡ u +ℤ pos (2 ^ 31) → pos ((x + h) / B + (2 ^ 31 - e)) ≡ floor_z (u +ℤ pos h) B +ℤ pos (2 ^ 31)
  quotient_word u k = let f = floor_kept u k in let t = top_low in omega (arith, ints)

-- how far a word lies from 2^31
pub held_abs : (Q x : ℕ) (u : ℤ) → pos x ≡ u +ℤ pos (2 ^ 31) → Held Q x → nat_abs u ≤ Q / 2
held_abs Q x u e h = omega (arith, ints)

pub abs_held : (Q x : ℕ) (u : ℤ) → Q < 2 ^ 31 → pos x ≡ u +ℤ pos (2 ^ 31) → nat_abs u ≤ Q / 2 → Held Q x
abs_held Q x u few e h = (omega (arith, ints), omega (arith, ints))

-- a quotient lies no farther from it
floor_small : (B h H : ℕ) (u : ℤ) → h < B → nat_abs u ≤ H → nat_abs (floor_z (u +ℤ pos h) B) ≤ H
floor_small B h H u less small =
    floor_bound B h H u less (let m : 1 * H ≤ B * H = mul-le-mul_right H (omega arith) in omega arith)

half_less : (w : ℕ) → 2 ^ w / 2 < 2 ^ w
half_less w = let p = pow_pos w in omega arith

-- the quotient of a kept number by 2^w
module _ (x w Q : ℕ) (few : Q < 2 ^ 31) (width : w ≤ 16) (held : Held Q x) where
  pub quotient_value : under ((x + 2 ^ w / 2) / 2 ^ w + (2 ^ 31 - 2 ^ 31 / 2 ^ w)) ≡ floor_z (under x +ℤ pos (2 ^ w / 2)) (2 ^ w)
  quotient_value =
      under_from _ _ (quotient_word x (2 ^ w) (2 ^ 31 / 2 ^ w) (2 ^ w / 2) (pow_pos w) (top_is w width) (under x) (under_is x))

  pub quotient_held : Held Q ((x + 2 ^ w / 2) / 2 ^ w + (2 ^ 31 - 2 ^ 31 / 2 ^ w))
  quotient_held =
      abs_held Q _ (floor_z (under x +ℤ pos (2 ^ w / 2)) (2 ^ w)) few (quotient_word x (2 ^ w) (2 ^ 31 / 2 ^ w) (2 ^ w / 2) (pow_pos w) (top_is w width) (under x) (under_is x))
      (floor_small (2 ^ w) (2 ^ w / 2) (Q / 2) (under x) (half_less w) (held_abs Q x (under x) (under_is x) held))

-- the word of a difference
pub word_less : (Q a b : ℕ) → a < b → b ≤ a + Q → a + Q - b ≡ word_of Q (pos a -ℤ pos b)
word_less Q a b l m = word_is Q (a + Q - b) (pos a -ℤ pos b) (omega arith) (record { times = pos 1; is = omega (arith, ints) })

pub word_more : (Q a b : ℕ) → b ≤ a → a < b + Q → a - b ≡ word_of Q (pos a -ℤ pos b)
word_more Q a b l m = word_is Q (a - b) (pos a -ℤ pos b) (omega arith) (record { times = pos 0; is = omega (arith, ints) })

-- the digit of a kept number
module _ (x w Q : ℕ) (width : w ≤ 16) (some : 1 ≤ w) (held : Held Q x) where
  pub digit_value : digit_of (2 ^ w) (under x) ≡ pos ((x + 2 ^ w / 2) % 2 ^ w) -ℤ pos (2 ^ w / 2)
  digit_value =
      let B = 2 ^ w in
      let e = 2 ^ 31 / 2 ^ w in
      let a = (x + 2 ^ w / 2) / 2 ^ w in
      let f = floor_kept x B e (B / 2) (pow_pos w) (top_is w width) (under x) (under_is x) in
      ap (λ (z : ℤ). under x -ℤ pos B *ℤ z) f ∙ ap (λ (z : ℤ). under x -ℤ z) (apart B a e)
      ∙ left x (B / 2) (a * B) ((x + 2 ^ w / 2) % B) (e * B) (under x) (under_is x) (top_is w width) (div-add-mod' (x + 2 ^ w / 2) B)
    where
      left : (x h a r t : ℕ) (u : ℤ) → pos x ≡ u +ℤ pos (2 ^ 31) → t ≡ 2 ^ 31 → a + r ≡ x + h → u -ℤ (pos a -ℤ pos t) ≡ pos r -ℤ pos h
      left x h a r t u k top d = omega (arith, ints)

-- it lies no farther from 0 than the number: t = x + h is a B + r, and 2^31 is e B
digit_near : (x h B a r e Q : ℕ) → B ≡ 2 * h → a * B + r ≡ x + h → r < B → e * B ≡ 2 ^ 31 → Held Q x → (h ≤ r + Q / 2) × (r ≤ h + Q / 2)
digit_near x h B a r e Q even d m top held = elim (cases_order a e) [
  | inl i ↦ (let s : a * B ≡ e * B = ap (λ (n : ℕ). n * B) i in (omega arith, omega arith))
  | inr o ↦ elim o [
    | inl l ↦ (let s : (a + 1) * B ≤ e * B = mul-le-mul_right B (omega arith) in let k = add-mul a 1 B in (omega arith, omega arith))
    | inr g ↦ (let s : (e + 1) * B ≤ a * B = mul-le-mul_right B (omega arith) in let k = add-mul e 1 B in (omega arith, omega arith))
  ]
]

module _ (x w Q : ℕ) (width : w ≤ 16) (some : 1 ≤ w) (held : Held Q x) where
  pub digit_close : (2 ^ w / 2 ≤ (x + 2 ^ w / 2) % 2 ^ w + Q / 2) × ((x + 2 ^ w / 2) % 2 ^ w ≤ 2 ^ w / 2 + Q / 2)
  digit_close =
      digit_near x (2 ^ w / 2) (2 ^ w) ((x + 2 ^ w / 2) / 2 ^ w) ((x + 2 ^ w / 2) % 2 ^ w) (2 ^ 31 / 2 ^ w) Q (base_even w some)
      (div-add-mod' (x + 2 ^ w / 2) (2 ^ w)) (mod_below (x + 2 ^ w / 2) (2 ^ w) (pow_pos w)) (top_is w width) held

-- the representative of a word
pub centred_high : (Q x : ℕ) → Q < 2 ^ 31 → Q < 2 * x → x < Q → (under (x + (2 ^ 31 - Q)) ≡ centred Q x) × Held Q (x + (2 ^ 31 - Q))
centred_high Q x few h l = (
  under_from _ _ (rw (lt-ltb Q (2 * x) h) (omega (arith, ints))),
  (omega arith, omega arith),
)

pub centred_low : (Q x : ℕ) → 2 * x ≤ Q → (under (x + 2 ^ 31) ≡ centred Q x) × Held Q (x + 2 ^ 31)
centred_low Q x h = (
  under_from _ _ (rw (le-ltb Q (2 * x) h) (omega (arith, ints))),
  (omega arith, omega arith),
)
