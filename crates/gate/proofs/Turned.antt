-- The first accumulator before the start key: a power of X times the test polynomial.
use Rattle.std.proofs.Common.{◌≡◌, ℕ, ◌+◌, ◌-◌, ◌*◌, ◌/◌, ◌%◌, ◌<◌, ◌≤◌, Bool, true, false, cond, not, List, length, get_or, ℤ, pos, neg_ℤ, sym, refl, ap, ◌∙◌, div-add-mod', arith}
use native.Mathlib.Nat.{mul-add-mod_self_right}
use borrow.Author.Differences.{ints}
use Rattle.algebra.specs.Polys.{Poly, power, wrapped}
use Rattle.algebra.specs.Words.{word_of, words}
use Rattle.algebra.specs.Gates.{test, beginning}
use Rattle.algebra.proofs.Powers.{power_wrapped, power_upper, power_agree}
use Rattle.algebra.proofs.Words.{words_same, words_long, words_below}
use Rattle.kernels.specs.Polynomials.{reduced}
use Rattle.kernels.specs.Reduced.{reduced_same}
use Rattle.algebra.proofs.Cong.{same}
use Rattle.gate.proofs.Places.{words_told}

turn : (p : Bool) (δ : ℤ) → cond (not p) δ (neg_ℤ δ) ≡ neg_ℤ (cond p δ (neg_ℤ δ))
turn true δ = refl
turn false δ = omega (arith, ints)

-- on the first half of the circle, and on the second
pub first_half : (N e k : ℕ) (δ : ℤ) (p : Bool) → e ≤ N → k < N → wrapped N e (test N δ) k ≡ cond p δ (neg_ℤ δ)
    → power N e (test N δ) k ≡ cond p δ (neg_ℤ δ)
first_half N e k δ p a l h = power_wrapped N e (test N δ) a k l ∙ h

pub second_half : (N e k : ℕ) (δ : ℤ) (p : Bool) → N ≤ e → e ≤ N + N → k < N → wrapped N (e - N) (test N δ) k ≡ cond p δ (neg_ℤ δ)
    → power N e (test N δ) k ≡ cond (not p) δ (neg_ℤ δ)
second_half N e k δ p a b l h =
    ap (λ (i : ℕ). power N i (test N δ) k) {x = e} {y = N + (e - N)} (omega arith)
    ∙ power_upper N (e - N) (test N δ) (omega arith) k l ∙ ap neg_ℤ h ∙ sym (turn p δ)

pub beginning_from : (N Q e : ℕ) (out : List ℕ) → length out ≡ N
    → ((k : ℕ) → k < N → get_or out k 0 ≡ word_of Q (power N e (test N (pos (Q / 8))) k)) → out ≡ beginning N Q e
unfolding beginning
beginning_from N Q e out = words_told N Q (power N e (test N (pos (Q / 8)))) out

-- exponents of Y count modulo q
pub beginning_rest : (N Q q b : ℕ) → 0 < Q → N + N ≡ (N + N) / q * q → beginning N Q ((N + N) / q * (b % q)) ≡ beginning N Q ((N + N) / q * b)
unfolding beginning
beginning_rest N Q q b some circle =
    words_same N Q _ _ some (λ k l. same Q _ _ (power_agree N ((N + N) / q * (b % q)) ((N + N) / q * b) (test N (pos (Q / 8))) rest k l))
  where
    rest : (N + N) / q * (b % q) % (N + N) ≡ (N + N) / q * b % (N + N)
    rest =
        let d : b / q * q + b % q ≡ b = div-add-mod' b q in
        let s : (N + N) / q * b ≡ b / q * ((N + N) / q * q) + (N + N) / q * (b % q) =
        ap (λ (x : ℕ). (N + N) / q * x) (sym d) ∙ omega arith in
        sym (ap (λ (x : ℕ). x % (N + N)) (s ∙ ap (λ (m : ℕ). b / q * m + (N + N) / q * (b % q)) (sym circle))
        ∙ mul-add-mod_self_right (b / q) (N + N) ((N + N) / q * (b % q)))

-- it is a polynomial, so it is its own remainder
pub beginning_reduced : (N Q e : ℕ) → 0 < Q → beginning N Q e ≡ reduced N Q (beginning N Q e)
unfolding beginning
beginning_reduced N Q e some =
    let p : Poly = power N e (test N (pos (Q / 8))) in
    reduced_same N Q (words N Q p) (words_long N Q p, λ k l. words_below N Q p some k (omega (arith, words_long N Q p)))
