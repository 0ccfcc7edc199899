-- Quotients that fit a word, and the number of bits of a modulus.
use Rattle.std.proofs.Common.{◌≡◌, ℕ, zero, suc, ◌+◌, ◌-◌, ◌*◌, ◌/◌, ◌%◌, ◌^◌, ◌<◌, ◌≤◌, sym, ap, ◌∙◌, inl, inr, mul-le-mul_right, mod-eq_of_lt, div-lt_iff_lt-mul, mul-le-mul_left, one-mul, arith, pow_mono, pow-add, w32, Fits}
use native.Mathlib.Nat.{pow-succ'}
use Rattle.std.proofs.lemmas.Bool.{cases_lt}

-- the quotient that multiplication by x wants
pub quotient_low : (x Q : ℕ) → x < Q → Q < 4294967296 → Fits w32 (x * 4294967296 % 18446744073709551616 / Q)
quotient_low x Q h k =
    let q0 : 0 < Q = omega arith in
    let f : x * 4294967296 % 18446744073709551616 ≡ x * 4294967296 = mod-eq_of_lt (omega arith) in
    let l : x * 4294967296 < 4294967296 * Q = omega arith in
    let d : x * 4294967296 / Q < 4294967296 = (div-lt_iff_lt-mul {k = Q} {x = x * 4294967296} {y = 4294967296} q0).1 l in
    let e : x * 4294967296 % 18446744073709551616 / Q ≡ x * 4294967296 / Q = ap (λ i. i / Q) f in
    omega arith

pub exponent_below : (r k : ℕ) → 2 ^ r < 2 ^ k → r < k
exponent_below r k h = elim (cases_lt r k) [ inl l ↦ l | inr g ↦ absurd (omega (arith, pow_mono g)) ]

pub bits_few : (Q r : ℕ) → Q < 2147483648 → 2 ^ (r - 1) ≤ Q → r < 32
bits_few Q r h l = let b : r - 1 < 31 = exponent_below (r - 1) 31 (omega arith) in omega arith

-- an odd number is no power of two
pub bits_strict : (Q r : ℕ) → Q % 2 ≡ 1 → 1 < Q → 2 ^ (r - 1) ≤ Q → Q < 2 ^ r → 2 ^ (r - 1) < Q
bits_strict Q zero o m l h = absurd (omega arith)
bits_strict Q (suc zero) o m l h = absurd (omega arith)
bits_strict Q (suc (suc r)) o m l h =
    let e : suc (suc r) - 1 ≡ suc r = omega arith in
    let p : 2 ^ suc r ≡ 2 * 2 ^ r = pow-succ' 2 r in
    let w : 2 ^ (suc (suc r) - 1) ≡ 2 ^ suc r = ap (λ i. 2 ^ i) e in
    omega arith

-- 4^r in its two parts
fourfold : (r : ℕ) → 0 < r → 2 ^ (r - 1) * 2 ^ (r + 1) ≡ 2 ^ (2 * r)
fourfold r p =
    let e : r - 1 + (r + 1) ≡ 2 * r = omega arith in
    sym (pow-add 2 (r - 1) (r + 1)) ∙ ap (λ i. 2 ^ i) e

pub square_fits : (Q r : ℕ) → 0 < r → Q < 2 ^ r → Q * Q ≤ 2 ^ (r - 1) * 2 ^ (r + 1)
square_fits Q r p h =
    let l : Q ≤ 2 ^ r = omega arith in
    let a : Q * Q ≤ 2 ^ r * Q = mul-le-mul_right Q l in
    let b : 2 ^ r * Q ≤ 2 ^ r * 2 ^ r = mul-le-mul_left (2 ^ r) l in
    let e : r + r ≡ 2 * r = omega arith in
    let c : 2 ^ r * 2 ^ r ≡ 2 ^ (2 * r) = sym (pow-add 2 r r) ∙ ap (λ i. 2 ^ i) e in
    omega (arith, fourfold r p)

-- 4^r as the code makes it, and its quotient as a word
pub shifted : (r : ℕ) → 0 < r → r < 32 → 1 * 2 ^ (2 * r) % 18446744073709551616 ≡ 2 ^ (r - 1) * 2 ^ (r + 1)
shifted r p f =
    let a : 2 * r ≤ 62 = omega arith in
    let b : 2 ^ (2 * r) ≤ 2 ^ 62 = pow_mono a in
    let o : 1 * 2 ^ (2 * r) ≡ 2 ^ (2 * r) = one-mul (2 ^ (2 * r)) in
    ap (λ i. i % 18446744073709551616) o ∙ (mod-eq_of_lt (omega arith) ∙ sym (fourfold r p))

pub mu_low : (Q r : ℕ) → r < 32 → 2 ^ (r - 1) < Q → 2 ^ (r - 1) * 2 ^ (r + 1) / Q < 4294967296
mu_low Q r f l =
    let c : r + 1 ≤ 32 = omega arith in
    let d : 2 ^ (r + 1) ≤ 2 ^ 32 = pow_mono c in
    let q0 : 0 < Q = omega arith in
    let x : 2 ^ (r - 1) * 2 ^ (r + 1) ≤ 2 ^ (r - 1) * 4294967296 = mul-le-mul_left (2 ^ (r - 1)) d in
    let y : 2 ^ (r - 1) * 2 ^ (r + 1) < 4294967296 * Q = omega arith in
    (div-lt_iff_lt-mul {k = Q} {x = 2 ^ (r - 1) * 2 ^ (r + 1)} {y = 4294967296} q0).1 y
