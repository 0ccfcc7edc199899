-- Exponents of Y modulo q are exponents of X modulo 2N.
use Rattle.std.proofs.Common.{◌≡◌, ℕ, ◌+◌, ◌-◌, ◌*◌, ◌/◌, ◌%◌, ◌^◌, ◌<◌, ◌≤◌, sym, ap, ◌∙◌, inl, inr, mul_assoc, mul_comm, mul-le-mul_left, mul-suc, mul-add, arith}
use Rattle.std.proofs.lemmas.Nat.{pow-add, pow_below, shl-shr, div-add-mod', mod_below, mod-mul-add}
use Rattle.std.proofs.lemmas.Bool.{cases_order}
use Rattle.set.specs.declared.within.Within.{Within}
use Rattle.set.proofs.Limits.{limits_of}

-- a power of two divides each greater one
power_divides : (i j : ℕ) → 2 ^ i ≤ 2 ^ j → 2 ^ j ≡ 2 ^ j / 2 ^ i * 2 ^ i
power_divides i j h = elim (cases_order i j) [
  | inl e ↦ by 0 (omega arith)
  | inr o ↦ elim o [ inl l ↦ by (j - i) (omega arith) | inr g ↦ absurd (let p = pow_below j i g in omega arith) ]
]
  where
    by : (k : ℕ) → k + i ≡ j → 2 ^ j ≡ 2 ^ j / 2 ^ i * 2 ^ i
    by k e =
        let p : 2 ^ j ≡ 2 ^ k * 2 ^ i = ap (λ (n : ℕ). 2 ^ n) (sym e) ∙ pow-add 2 k i in
        p ∙ ap (λ (n : ℕ). n * 2 ^ i) (sym (shl-shr (2 ^ k) i) ∙ ap (λ (n : ℕ). n / 2 ^ i) (sym p))

circle_of : (N q a b : ℕ) → N ≡ 2 ^ a → q ≡ 2 ^ b → q ≤ 2 * N → N + N ≡ (N + N) / q * q
circle_of N q a b e f h =
    let two : N + N ≡ 2 ^ (1 + a) = omega (arith, pow-add 2 1 a) in
    rw (two, f) (power_divides b (1 + a) (omega arith))

-- q divides 2N
pub circle : (w : Within) → w.numbers.degree + w.numbers.degree ≡ (w.numbers.degree + w.numbers.degree) / w.numbers.small * w.numbers.small
circle w =
    let l = limits_of w.numbers w.fit in
    circle_of w.numbers.degree w.numbers.small l.degree_ok.0.0 l.small_ok.0.0 l.degree_ok.0.1 l.small_ok.0.1 l.small_ok.1.1

-- the turn of an exponent's remainder
pub turn_below : (u q e m : ℕ) → 0 < q → 0 < u → m ≡ u * q → u * (e % q) < m
turn_below u q e m some unit h = let k = mul-le-mul_left u (mod_below e q some) in omega (arith, mul-suc u (e % q))

pub turn_value : (u q e m : ℕ) → 0 < q → 0 < u → m ≡ u * q → u * (e % q) ≡ (u * e) % m
turn_value u q e m some unit h =
    let d = div-add-mod' e q in
    let p : u * e ≡ e / q * m + u * (e % q) =
    ap (λ (n : ℕ). u * n) (sym d) ∙ mul-add u (e / q * q) (e % q) ∙ ap (λ (n : ℕ). n + u * (e % q)) (turned (e / q)) in
    sym (ap (λ (n : ℕ). n % m) p ∙ mod-mul-add (e / q) m (u * (e % q)) (turn_below u q e m some unit h))
  where
    turned : (k : ℕ) → u * (k * q) ≡ k * m
    turned k = sym (mul_assoc u k q) ∙ ap (λ (n : ℕ). n * q) (mul_comm u k) ∙ mul_assoc k u q ∙ ap (λ (n : ℕ). k * n) (sym h)
