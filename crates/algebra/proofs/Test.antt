-- The constant coefficient of a power of X times the test polynomial.
use Rattle.std.proofs.Common.{◌≡◌, ℕ, zero, suc, ◌+◌, ◌-◌, ◌*◌, ◌/◌, ◌%◌, ◌<◌, ◌≤◌, Bool, cond, ltb, ◌⊎◌, ℤ, pos, ◌+ℤ◌, ◌*ℤ◌, neg_ℤ, sym, ap, ◌∙◌, inl, inr, mod-lt, arith, le-ltb, lt-ltb}
use native.Mathlib.Decide.{dec_lt}
use borrow.Author.Differences.{ints}
use Rattle.algebra.proofs.Powers.{power_zero, power_back, power_add, power_N, power_mod}
use Rattle.algebra.specs.Polys.{Poly, power}
use Rattle.algebra.specs.Gates.{test, inside, side}

-- before, between and after two bounds
pub inside_before : (low high r : ℕ) → r < low → inside low high r ≡ 0
inside_before low high r a = ap (λ (b : Bool). cond b 0 (cond (ltb r high) 1 0)) (lt-ltb r low a)

pub inside_between : (low high r : ℕ) → low ≤ r → r < high → inside low high r ≡ 1
inside_between low high r a b =
    ap (λ (x : Bool). cond x 0 (cond (ltb r high) 1 0)) (le-ltb r low a) ∙ ap (λ (x : Bool). cond x 1 0) (lt-ltb r high b)

pub inside_after : (low high r : ℕ) → low ≤ r → high ≤ r → inside low high r ≡ 0
inside_after low high r a b =
    ap (λ (x : Bool). cond x 0 (cond (ltb r high) 1 0)) (le-ltb r low a) ∙ ap (λ (x : Bool). cond x 1 0) (le-ltb r high b)

pub inside_bit : (low high r : ℕ) → inside low high r ≤ 1
inside_bit low high r = grind arith

-- what X^j brings to place 0, on the first half of the circle and on the second
pub constant_first : (N j : ℕ) (q : Poly) → 0 < j → j ≤ N → power N j q 0 ≡ neg_ℤ (q (N - j))
constant_first N j q a b = power_back N j q 0 a b ∙ ap (λ (x : ℕ). neg_ℤ (q x)) {x = N + 0 - j} {y = N - j} (omega arith)

pub constant_second : (N j : ℕ) (q : Poly) → 0 < j → j ≤ N → power N (N + j) q 0 ≡ q (N - j)
constant_second N j q a b =
    power_add N N j q 0 (omega arith) ∙ power_N N (power N j q) 0 (omega arith)
    ∙ ap neg_ℤ (constant_first N j q a b) ∙ omega (arith, ints)

module _ (N : ℕ) (δ : ℤ) (some : 0 < N) (even : N ≡ 2 * (N / 2)) where
  low : (k : ℕ) → k ≤ N / 2 → test N δ k ≡ neg_ℤ δ
  low k l = ap (λ (b : Bool). cond b δ (neg_ℤ δ)) (le-ltb (N / 2) k l)

  high : (k : ℕ) → N / 2 < k → test N δ k ≡ δ
  high k l = ap (λ (b : Bool). cond b δ (neg_ℤ δ)) (lt-ltb (N / 2) k l)

  twice : neg_ℤ (neg_ℤ δ) ≡ δ
  twice = omega (arith, ints)

  high_at : (j : ℕ) → N / 2 ≤ j → j < N + N / 2 → power N j (test N δ) 0 ≡ δ
  high_at j a b = elim (dec_lt N j) [
    | no n ↦ constant_first N j (test N δ) (omega (arith, n)) (omega (arith, n)) ∙ ap neg_ℤ (low (N - j) (omega (arith, n))) ∙ twice
    | yes l ↦ ap (λ (x : ℕ). power N x (test N δ) 0) {x = j} {y = N + (j - N)} (omega arith)
        ∙ constant_second N (j - N) (test N δ) (omega arith) (omega arith) ∙ high (N - (j - N)) (omega arith)
  ]

  low_at : (j : ℕ) → (j < N / 2) ⊎ ((N + N / 2 ≤ j) × (j < N + N)) → power N j (test N δ) 0 ≡ neg_ℤ δ
  low_at zero h = power_zero N (test N δ) 0 ∙ low 0 (omega arith)
  low_at (suc j) (inl a) =
      constant_first N (suc j) (test N δ) (omega arith) (omega arith) ∙ ap neg_ℤ (high (N - suc j) (omega arith))
  low_at (suc j) (inr b) =
      ap (λ (x : ℕ). power N x (test N δ) 0) {x = suc j} {y = N + (suc j - N)} (omega (arith, b.0))
      ∙ constant_second N (suc j - N) (test N δ) (omega (arith, b.0)) (omega (arith, b.1))
      ∙ low (N - (suc j - N)) (omega (arith, b.0, b.1))

  -- δ on the upper half of the circle, -δ on the lower
  pub test_high : (σ : ℕ) → N / 2 ≤ σ % (N + N) → σ % (N + N) < N + N / 2 → power N σ (test N δ) 0 ≡ δ
  test_high σ a b = power_mod N σ (test N δ) 0 some ∙ high_at (σ % (N + N)) a b

  pub test_low : (σ : ℕ) → (σ % (N + N) < N / 2) ⊎ (N + N / 2 ≤ σ % (N + N)) → power N σ (test N δ) 0 ≡ neg_ℤ δ
  test_low σ (inl a) = power_mod N σ (test N δ) 0 some ∙ low_at (σ % (N + N)) (inl a)
  test_low σ (inr a) = power_mod N σ (test N δ) 0 some ∙ low_at (σ % (N + N)) (inr (a, mod-lt σ (omega arith)))

  -- so δ plus it is 2 δ or 0
  pub test_side : (σ : ℕ) → δ +ℤ power N σ (test N δ) 0 ≡ pos (side N σ) *ℤ (pos 2 *ℤ δ)
  test_side σ =
      let r : ℕ = σ % (N + N) in
      elim (dec_lt (σ % (N + N)) (N / 2)) [
        | yes a ↦ ap (λ (x : ℤ). δ +ℤ x) (test_low σ (inl a)) ∙ none
            ∙ ap (λ (i : ℕ). pos i *ℤ (pos 2 *ℤ δ)) (sym (inside_before (N / 2) (N + N / 2) r a))
        | no n ↦
            let l : N / 2 ≤ σ % (N + N) = omega (arith, n) in
            elim (dec_lt (σ % (N + N)) (N + N / 2)) [
              | yes b ↦ ap (λ (x : ℤ). δ +ℤ x) (test_high σ l b) ∙ two
                  ∙ ap (λ (i : ℕ). pos i *ℤ (pos 2 *ℤ δ)) (sym (inside_between (N / 2) (N + N / 2) r l b))
              | no m ↦
                  let k : N + N / 2 ≤ σ % (N + N) = omega (arith, m) in
                  ap (λ (x : ℤ). δ +ℤ x) (test_low σ (inr k)) ∙ none
                  ∙ ap (λ (i : ℕ). pos i *ℤ (pos 2 *ℤ δ)) (sym (inside_after (N / 2) (N + N / 2) r l k))
            ]
      ]
    where
      none : δ +ℤ neg_ℤ δ ≡ pos 0 *ℤ (pos 2 *ℤ δ)
      none = omega (arith, ints)

      two : δ +ℤ δ ≡ pos 1 *ℤ (pos 2 *ℤ δ)
      two = omega (arith, ints)
