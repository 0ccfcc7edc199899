-- Mirrored numbers, and where the places of a table lie.
use Rattle.std.proofs.Common.{◌≡◌, ℕ, zero, suc, ◌+◌, ◌-◌, ◌*◌, ◌/◌, ◌%◌, ◌^◌, ◌<◌, ◌≤◌, sym, ap, ◌∙◌, mul-le-mul_right, mod-eq_of_lt, div-lt_iff_lt-mul, add-mul, one-mul, mul_left_comm, arith, pow_pos, pow_mono, pow-add}
use native.Mathlib.Nat.{pow-succ', mul-lt-mul_of_pos_left}
use Rattle.rings.specs.Tables.{mirror}

pub mirror_suc : (s b : ℕ) → 0 < s → mirror s b ≡ mirror (s - 1) (b / 2) + b % 2 * 2 ^ (s - 1)
mirror_suc zero b h = absurd (omega arith)
mirror_suc (suc s) b h =
    let e : s ≡ suc s - 1 = omega arith in
    ap (λ i. mirror i (b / 2) + b % 2 * 2 ^ i) e

pub mirror_low : (s b : ℕ) → mirror s b < 2 ^ s
mirror_low zero b = omega arith
mirror_low (suc s) b =
    let i : mirror s (b / 2) < 2 ^ s = mirror_low s (b / 2) in
    let l : b % 2 ≤ 1 = omega arith in
    let m : b % 2 * 2 ^ s ≤ 1 * 2 ^ s = mul-le-mul_right (2 ^ s) l in
    let p : 2 ^ suc s ≡ 2 * 2 ^ s = pow-succ' 2 s in
    omega arith

-- numbers at the two ends have mirrored numbers at the two ends
pub mirror_flip : (s b c : ℕ) → b + c + 1 ≡ 2 ^ s → mirror s b + mirror s c + 1 ≡ 2 ^ s
mirror_flip zero b c e = omega arith
mirror_flip (suc s) b c e =
    let p : 2 ^ suc s ≡ 2 * 2 ^ s = pow-succ' 2 s in
    let i : mirror s (b / 2) + mirror s (c / 2) + 1 ≡ 2 ^ s = mirror_flip s (b / 2) (c / 2) (omega arith) in
    let d : b % 2 + c % 2 ≡ 1 = omega arith in
    let m : (b % 2 + c % 2) * 2 ^ s ≡ b % 2 * 2 ^ s + c % 2 * 2 ^ s = add-mul (b % 2) (c % 2) (2 ^ s) in
    let o : (b % 2 + c % 2) * 2 ^ s ≡ 1 * 2 ^ s = ap (λ k. k * 2 ^ s) d in
    let u : 1 * 2 ^ s ≡ 2 ^ s = one-mul (2 ^ s) in
    omega arith

-- 1 shifted by at most 10
pub one_shift : (k : ℕ) → k ≤ 10 → 1 * 2 ^ k % 18446744073709551616 ≡ 2 ^ k
one_shift k h =
    let b : 2 ^ k ≤ 2 ^ 10 = pow_mono h in
    let o : 1 * 2 ^ k ≡ 2 ^ k = one-mul (2 ^ k) in
    ap (λ i. i % 18446744073709551616) o ∙ mod-eq_of_lt (omega arith)

-- a bit shifted by at most 10
pub bit_shift : (d k : ℕ) → d < 2 → k ≤ 10 → d * 2 ^ k % 18446744073709551616 ≡ d * 2 ^ k
bit_shift d k h l =
    let b : 2 ^ k ≤ 2 ^ 10 = pow_mono l in
    let t : d ≤ 1 = omega arith in
    let m : d * 2 ^ k ≤ 1 * 2 ^ k = mul-le-mul_right (2 ^ k) t in
    mod-eq_of_lt (omega arith)

-- the row of place i
pub row_of : (n h i : ℕ) → h ≡ 2 ^ (n - 1) → i < n * h → i / h < n
row_of n h i e l =
    let h0 : 0 < h = omega (arith, pow_pos (n - 1)) in
    (div-lt_iff_lt-mul {k = h} {x = i} {y = n} h0).1 l

-- the powers of row s lie below 2 h
pub spot_low : (n h s r : ℕ) → s < n → h ≡ 2 ^ (n - 1) → r < 2 ^ s → 2 ^ (n - 1 - s) * (2 * r + 1) < 2 * h
spot_low n h s r p e l =
    let k : n - 1 - s + s ≡ n - 1 = omega arith in
    let hv : 2 ^ (n - 1 - s) * 2 ^ s ≡ 2 ^ (n - 1) = sym (pow-add 2 (n - 1 - s) s) ∙ ap (λ i. 2 ^ i) k in
    let a : 2 * r + 1 < 2 * 2 ^ s = omega arith in
    let m : 2 ^ (n - 1 - s) * (2 * r + 1) < 2 ^ (n - 1 - s) * (2 * 2 ^ s) =
    mul-lt-mul_of_pos_left a (pow_pos (n - 1 - s)) in
    let c : 2 ^ (n - 1 - s) * (2 * 2 ^ s) ≡ 2 * (2 ^ (n - 1 - s) * 2 ^ s) =
    mul_left_comm (2 ^ (n - 1 - s)) 2 (2 ^ s) in
    omega arith

pub half_low : (n h : ℕ) → n ≤ 10 → h ≡ 2 ^ (n - 1) → h ≤ 512
half_low n h l e =
    let k : n - 1 ≤ 9 = omega arith in
    let b : 2 ^ (n - 1) ≤ 2 ^ 9 = pow_mono k in
    omega arith
