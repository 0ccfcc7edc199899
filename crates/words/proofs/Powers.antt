-- The test for a power of two.
use Rattle.std.proofs.Common.{◌≡◌, ℕ, zero, suc, ◌+◌, ◌-◌, ◌*◌, ◌^◌, ◌<◌, ◌≤◌, true, count_ones, Option, Some, None, IfSome, IfNone, unwrap_or, sym, ap, ◌∙◌, subst, inl, inr, arith, pow_mono}
use native.Mathlib.Nat.{lt_of_not-le}
use lib.Count.{count_leading_zeros, leading_of_zero, ones-ones}
use Rattle.std.specs.Int.{is_power_of_two}
use Rattle.std.proofs.lemmas.Nat.{leading_top, pow_below, pow_pos, ones_cat, zero_from_ones, ones_le_self}
use Rattle.std.proofs.lemmas.Bool.{eq-eqb, eqb-true, cases_order}
use Rattle.std.proofs.lemmas.Bool.Decides.{nat_tests}
use Rattle.words.specs.Powers.{Power, log2, is_power}

-- a number lies between two neighbouring powers of two
pub log_between : (x : ℕ) → 0 < x → x < 2 ^ 32 → (2 ^ log2 x ≤ x) × (x < 2 ^ suc (log2 x))
unfolding log2
log_between x some few =
    let t = leading_top 32 x some few in
    let e : 31 - count_leading_zeros 32 x ≡ t.0 = (let h = t.1 in omega arith) in
    (rw e t.2, rw e t.3)

-- and between no others
log_unique : (x i j : ℕ) → 2 ^ i ≤ x → x < 2 ^ suc i → 2 ^ j ≤ x → x < 2 ^ suc j → i ≡ j
log_unique x i j a b c d = elim (cases_order i j) [
  | inl e ↦ e
  | inr o ↦ elim o [
    | inl l ↦ absurd (let p : 2 ^ suc i ≤ 2 ^ j = pow_mono (omega arith) in omega arith)
    | inr g ↦ absurd (let p : 2 ^ suc j ≤ 2 ^ i = pow_mono (omega arith) in omega arith)
  ]
]

-- the power of two between them is one
pub log_of_power : (k : ℕ) → k < 32 → log2 (2 ^ k) ≡ k
log_of_power k few =
    let b = log_between (2 ^ k) (pow_pos k) (pow_below k 32 few) in
    log_unique (2 ^ k) (log2 (2 ^ k)) k b.0 b.1 (omega arith) (pow_below k (suc k) (omega arith))

-- an exponent is less than the power
pub below_power : (k : ℕ) → k < 2 ^ k
below_power zero = omega arith
below_power (suc k) = let h = below_power k in omega arith

-- the logarithm that std finds, and 0 for 0
pub log_is : (o : Option ℕ) (x : ℕ) → x < 2 ^ 32 → IfNone o (x ≡ 0) → IfSome o (λ k. 2 ^ k ≤ x) → IfSome o (λ k. x < 2 * 2 ^ k) → unwrap_or o 0 ≡ log2 x
unfolding log2
log_is None x few z a b = omega (arith, z, leading_of_zero 32, ap (count_leading_zeros 32) z)
log_is (Some k) x few z a b =
    let some : 0 < x = omega (arith, a, pow_pos k) in
    let l = log_between x some few in
    log_unique x k (log2 x) a (omega arith) l.0 l.1

-- a power of two of 32 bits has an exponent below 32
pub power_exponent : (k : ℕ) → 2 ^ k < 2 ^ 32 → k < 32
power_exponent k h = lt_of_not-le (λ (l : 32 ≤ k). let p : 2 ^ 32 ≤ 2 ^ k = pow_mono l in omega arith)

-- the test passes for the powers of two, and for no others
pub power_passes : (x : ℕ) → x < 2 ^ 32 → Power x → is_power x ≡ true
power_passes x few (k, e) =
    let small : k < 32 = power_exponent k (subst (λ (n : ℕ). n < 2 ^ 32) e few) in
    let l : log2 x ≡ k = ap log2 e ∙ log_of_power k small in
    eq-eqb x (2 ^ log2 x) (e ∙ ap (λ (n : ℕ). 2 ^ n) (sym l))

pub passes_power : (x : ℕ) → is_power x ≡ true → Power x
passes_power x t = (log2 x, eqb-true x (2 ^ log2 x) t)

-- under the highest bit of a number lie the bits of what is left
ones_top : (x k : ℕ) → 2 ^ k ≤ x → x < 2 ^ suc k → count_ones x ≡ 1 + count_ones (x - 2 ^ k)
ones_top x k low high =
    let e : x ≡ 1 * 2 ^ k + (x - 2 ^ k) = omega arith in
    ap count_ones e ∙ ones_cat k 1 (x - 2 ^ k) (omega arith) ∙ ap (λ (n : ℕ). n + count_ones (x - 2 ^ k)) (ones-ones 1)

-- a number has one bit where it is the power of two below it
pub one_bit : (x : ℕ) → x < 2 ^ 32 → is_power_of_two x ≡ is_power x
one_bit zero few = let p = pow_pos (log2 0) in let o = ones_le_self 0 in grind (arith, nat_tests)
one_bit (suc n) few =
    let b = log_between (suc n) (omega arith) few in
    let t = ones_top (suc n) (log2 (suc n)) b.0 b.1 in
    let z = zero_from_ones (suc n - 2 ^ log2 (suc n)) in
    let o = ones_le_self (suc n - 2 ^ log2 (suc n)) in
    grind (arith, nat_tests)
