-- Division rounded down, over the integers.
use Rattle.std.proofs.Common.{◌≡◌, ℕ, ◌+◌, ◌-◌, ◌*◌, ◌/◌, ◌^◌, ◌<◌, ◌≤◌, ℤ, pos, negsuc, ◌+ℤ◌, ◌*ℤ◌, ◌≤ℤ◌, ◌<ℤ◌, sym, ap, ◌∙◌, mul-le-mul_left, arith, w64, SFits}
use lib.IntN.{suc_ℤ, *ℤ_comm, +ℤ_one, suc_ℤ-*ℤ}
use Rattle.std.proofs.lemmas.Int.{ints}
use Rattle.std.proofs.lemmas.Nat.{div_below, pow-add, pow_pos, div-add-mod'}
use Rattle.algebra.specs.Ints.{floor_z}
use Rattle.algebra.proofs.Digits.{floor_is, cancel_lt}

-- one more times a factor
pub times_next : (b : ℕ) (x : ℤ) → pos b *ℤ (x +ℤ pos 1) ≡ pos b *ℤ x +ℤ pos b
times_next b x =
    ap (λ (y : ℤ). pos b *ℤ y) (+ℤ_one x) ∙ *ℤ_comm (pos b) (suc_ℤ x) ∙ suc_ℤ-*ℤ x (pos b)
    ∙ ap (λ (y : ℤ). y +ℤ pos b) (*ℤ_comm x (pos b))

-- a quotient that leaves less than the divisor is the quotient
pub floor_unique : (z q : ℤ) (b : ℕ) → 0 < b → (pos b *ℤ q) ≤ℤ z → z <ℤ (pos b *ℤ q +ℤ pos b) → floor_z z b ≡ q
floor_unique z q b h low high =
    let f = floor_is z b h in
    let m = times_next b q in
    let n = times_next b (floor_z z b) in
    let x : floor_z z b <ℤ (q +ℤ pos 1) = cancel_lt b (floor_z z b) (q +ℤ pos 1) (rw m (omega (arith, ints))) in
    let y : q <ℤ (floor_z z b +ℤ pos 1) = cancel_lt b q (floor_z z b +ℤ pos 1) (rw n (omega (arith, ints))) in
    omega (arith, ints)

-- a quotient is no longer than what is divided
pub floor_fits : (z : ℤ) (b : ℕ) → 0 < b → SFits w64 z → SFits w64 (floor_z z b)
floor_fits (pos a) b h f = omega (arith, ints)
floor_fits (negsuc a) b h f = omega (arith, ints)

-- times a power of two of at most 16 bits it still fits 64 bits
pub product_fits : (z : ℤ) (w : ℕ) → w ≤ 16 → SFits w64 z → SFits w64 (floor_z z (2 ^ w) *ℤ pos (2 ^ w))
product_fits (pos a) w h f = omega (arith, ints, div-add-mod' a (2 ^ w))
product_fits (negsuc a) w h f =
    let e : 2 ^ (63 - w) * 2 ^ w ≡ 2 ^ 63 = (let k : 63 - w + w ≡ 63 = omega arith in sym (pow-add 2 (63 - w) w) ∙ ap (λ (n : ℕ). 2 ^ n) k) in
    let d : a / 2 ^ w < 2 ^ (63 - w) = div_below a (2 ^ w) (2 ^ (63 - w)) (pow_pos w) (rw e (omega (arith, ints))) in
    let m = mul-le-mul_left (2 ^ w) d in
    omega (arith, ints, m)
