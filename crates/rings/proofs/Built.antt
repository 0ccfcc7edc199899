-- What a ring is built of: the table of roots, the root's power N, the inverse of N.
use Rattle.std.proofs.Common.{◌≡◌, ℕ, zero, suc, ◌+◌, ◌-◌, ◌*◌, ◌/◌, ◌%◌, ◌^◌, ◌<◌, ◌≤◌, List, length, get_or, sym, ap, ◌∙◌, mod-lt, mod-eq_of_lt, mul-le-mul_left, pow-suc, mul-one, mul-add, arith, pow_mono, pow-add}
use native.Mathlib.Nat.{pow-succ', mod-mod, pow-zero, mul-mul-mul_comm}
use native.Mathlib.Nat.{mul-add-mod_self_right}
use Rattle.rings.specs.Tables.{mirror, exponent, Powers}
use Rattle.rings.proofs.Mod.{Same, same_times, same_both}
use Rattle.rings.proofs.Mirrors.{row_of, spot_low, half_low, mirror_low}

pub table_fits : (n h : ℕ) → n ≤ 10 → h ≡ 2 ^ (n - 1) → n * h ≤ 5120
table_fits n h l e =
    let b : h ≤ 512 = half_low n h l e in
    let x : n * h ≤ n * 512 = mul-le-mul_left n b in
    omega arith

-- a power of two and its half
pub record Halved (N n : ℕ) : Type 0 where
  pub half : N / 2 ≡ 2 ^ (n - 1)
  pub twice : N ≡ 2 * (N / 2)
  pub low : 4 ≤ N
  pub high : N ≤ 1024

pub halved : (N n : ℕ) → N ≡ 2 ^ n → 2 ≤ n → n ≤ 10 → Halved N n
halved N n e p l =
    let s : n ≡ suc (n - 1) = omega arith in
    let d : N ≡ 2 * 2 ^ (n - 1) = e ∙ (ap (λ i. 2 ^ i) s ∙ pow-succ' 2 (n - 1)) in
    let a : 2 ^ 2 ≤ 2 ^ n = pow_mono p in
    let b : 2 ^ n ≤ 2 ^ 10 = pow_mono l in
    record { half = omega arith; twice = omega arith; low = omega arith; high = omega arith }

pub exponent_low : (n h i : ℕ) → h ≡ 2 ^ (n - 1) → i < n * h → exponent n h i < 2 * h
unfolding exponent
exponent_low n h i e l =
    let r : ℕ = i / h in
    spot_low n h r (mirror r (i % h % 2 ^ r)) (row_of n h i e l) e (mirror_low r (i % h % 2 ^ r))

-- a table filled from the powers of ψ has powers of ψ below Q
module _ (Q ψ n h : ℕ) (all r : List ℕ) (e : h ≡ 2 ^ (n - 1)) (l : 2 * h ≤ length all) (powers : Powers Q ψ all)
    (filled : (i : ℕ) → i < n * h → get_or r i 0 ≡ get_or all (exponent n h i) 0) where
  pub roots_are : (i : ℕ) → i < n * h → get_or r i 0 ≡ ψ ^ exponent n h i % Q
  roots_are i b = filled i b ∙ powers (exponent n h i) (omega (arith, exponent_low n h i e b))

  pub roots_low : 0 < Q → (i : ℕ) → i < n * h → get_or r i 0 < Q
  roots_low q0 i b = omega (arith, roots_are i b, mod-lt (ψ ^ exponent n h i) q0)

-- the power N from the power N / 2
pub squared : (ψ N Q x : ℕ) → N ≡ 2 * (N / 2) → x ≡ ψ ^ (N / 2) % Q → x * x % Q ≡ ψ ^ N % Q
squared ψ N Q x e h =
    let m : ℕ = ψ ^ (N / 2) in
    let a : Same Q (m % Q * (m % Q)) (m * m) = same_both Q (m % Q) m (m % Q) m (mod-mod m Q) (mod-mod m Q) in
    let k : N / 2 + N / 2 ≡ N = omega arith in
    ap (λ i. i * i % Q) h ∙ (a ∙ ap (λ i. i % Q) (sym (pow-add ψ (N / 2) (N / 2)) ∙ ap (λ i. ψ ^ i) k))

-- half of Q + 1 is the inverse of 2
halves : (Q n : ℕ) → Q % 2 ≡ 1 → Same Q ((Q / 2 + 1) ^ n * 2 ^ n) 1
halves Q zero o = ap (λ i. i * 2 ^ 0 % Q) (pow-zero (Q / 2 + 1))
halves Q (suc n) o =
    let a : ℕ = Q / 2 + 1 in
    let x : ℕ = a ^ n * 2 ^ n in
    let d : (Q / 2 + 1) * 2 ≡ Q + 1 = omega arith in
    let e1 : a ^ suc n * 2 ^ suc n ≡ a ^ n * a * (2 ^ n * 2) =
    ap (λ i. i * 2 ^ suc n) (pow-suc a n) ∙ ap (λ i. a ^ n * a * i) (pow-suc 2 n) in
    let e2 : a ^ n * a * (2 ^ n * 2) ≡ a ^ n * 2 ^ n * (a * 2) = mul-mul-mul_comm (a ^ n) a (2 ^ n) 2 in
    let e3 : x * (Q + 1) ≡ x * Q + x * 1 = mul-add x Q 1 in
    let e4 : x * 1 ≡ x = mul-one x in
    ap (λ i. i % Q) (e1 ∙ (e2 ∙ (ap (λ i. x * i) d ∙ (e3 ∙ ap (λ i. x * Q + i) e4))))
    ∙ (mul-add-mod_self_right x Q x ∙ halves Q n o)

pub inverse_is : (Q n x : ℕ) → Q % 2 ≡ 1 → 1 < Q → x ≡ (Q / 2 + 1) ^ n % Q → x * 2 ^ n % Q ≡ 1
inverse_is Q n x o m e =
    let a : ℕ = (Q / 2 + 1) ^ n in
    ap (λ i. i * 2 ^ n % Q) e ∙ (same_times Q (a % Q) a (2 ^ n) (mod-mod a Q) ∙ (halves Q n o ∙ mod-eq_of_lt m))
