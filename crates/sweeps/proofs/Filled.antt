-- Lists that loops fill place by place, words of a polynomial among them, and the digits that are left after a step.
use Rattle.std.proofs.Common.{◌≡◌, ℕ, zero, suc, ◌+◌, ◌-◌, ◌<◌, List, length, get_or, set, ℤ, sym, refl, ap, ◌∙◌, subst, inl, inr, add-one, arith}
use Rattle.std.proofs.lemmas.List.{get_or-set_same, get_or-set_other}
use Rattle.std.proofs.lemmas.Bool.{cases_eq}
use Rattle.std.proofs.lemmas.List.FromFn.{fill_by_all}
use Rattle.algebra.proofs.Words.{words_long, words_at}
use Rattle.algebra.specs.Polys.{Poly}
use Rattle.algebra.specs.Words.{word_of, words}
use Rattle.algebra.specs.Digits.{digit_of, rest_of, digit}

-- one place more holds what it should
pub set_each : (P : ℕ → ℕ → Type 0) (xs : List ℕ) (i y : ℕ) → i < length xs → ((j : ℕ) → j < i → P j (get_or xs j 0)) → P i y
    → (j : ℕ) → j < i + 1 → P j (get_or (set xs i y) j 0)
set_each P xs i y l below here j m = elim (cases_eq j i) [
  | inl e ↦ subst (λ (n : ℕ). P n (get_or (set xs i y) n 0)) (sym e)
      (subst (λ (n : ℕ). P i n) (sym (get_or-set_same xs i y 0 l)) here)
  | inr d ↦ subst (λ (n : ℕ). P j n) (sym (get_or-set_other xs i j y 0 d)) (below j (omega (arith, d)))
]

-- words that hold each coefficient are the words of the polynomial
pub words_fill : (N Q : ℕ) (p : Poly) (xs : List ℕ) → length xs ≡ N → ((k : ℕ) → k < N → get_or xs k 0 ≡ word_of Q (p k)) → xs ≡ words N Q p
unfolding words
words_fill N Q p xs e f = fill_by_all (λ k. word_of Q (p k)) xs N 0 e f

-- the lowest of several digits, the one digit, and the others
pub digit_first : (B n : ℕ) (u : ℤ) → 1 < n → digit B n u 0 ≡ digit_of B u
unfolding digit
digit_first B zero u h = absurd (omega arith)
digit_first B (suc zero) u h = absurd (omega arith)
digit_first B (suc (suc n)) u h = refl

pub digit_only : (B n : ℕ) (u : ℤ) → n ≡ 1 → digit B n u 0 ≡ u
unfolding digit
digit_only B zero u h = absurd (omega arith)
digit_only B (suc zero) u h = refl
digit_only B (suc (suc n)) u h = absurd (omega arith)

pub digit_next : (B n : ℕ) (u : ℤ) (j : ℕ) → 1 < n → digit B (n - 1) (rest_of B u) j ≡ digit B n u (j + 1)
unfolding digit
digit_next B zero u j h = absurd (omega arith)
digit_next B (suc zero) u j h = absurd (omega arith)
digit_next B (suc (suc n)) u j h = rw (add-one j) (ap (λ (m : ℕ). digit B m (rest_of B u) j) {x = suc (suc n) - 1} {y = suc n} (omega arith))

-- equal coefficients have equal words
pub words_each : (N Q : ℕ) (p q : Poly) → ((k : ℕ) → k < N → p k ≡ q k) → words N Q p ≡ words N Q q
words_each N Q p q f =
    words_fill N Q q (words N Q p) (words_long N Q p) (λ k l. words_at N Q p k l ∙ ap (λ (z : ℤ). word_of Q z) (f k l))
