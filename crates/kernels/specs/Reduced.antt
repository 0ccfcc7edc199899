-- Remainders of words.
use Rattle.std.specs.Prelude.{◌≡◌, ℕ, ◌%◌, ◌<◌, List, length, slice_index}
use Rattle.std.proofs.Common.{sym, arith, mod-eq_of_lt}
use Rattle.std.proofs.lemmas.List.FromFn.{fill_by_all}
use Rattle.algebra.specs.Polys.{Alike}
use Rattle.algebra.specs.Words.{coeffs, words}
use Rattle.algebra.proofs.Words.{words_long, words_at, words_below, words_alike}
use Rattle.kernels.specs.Polynomials.{IsPoly, reduced}

module _ (N Q : ℕ) where
  pub reduced_at : (w : List ℕ) (k : ℕ) → k < N → slice_index (reduced N Q w) k ≡ slice_index w k % Q
  reduced_at w k l = words_at N Q (coeffs w) k l

  pub reduced_poly : (w : List ℕ) → 0 < Q → IsPoly N Q (reduced N Q w)
  reduced_poly w q0 =
      (words_long N Q (coeffs w), λ k l. words_below N Q (coeffs w) q0 k (omega (arith, words_long N Q (coeffs w))))

  pub reduced_alike : (w : List ℕ) → 0 < Q → Alike Q N (coeffs (reduced N Q w)) (coeffs w)
  reduced_alike w = words_alike N Q (coeffs w)

  -- a list of remainders, and a polynomial, which is its own
  pub reduced_from : (w v : List ℕ) → length v ≡ N → ((k : ℕ) → k < N → slice_index v k ≡ slice_index w k % Q) → v ≡ reduced N Q w
  unfolding words
  reduced_from w v e f = fill_by_all (λ i. slice_index w i % Q) v N 0 e f

  pub reduced_same : (p : List ℕ) → IsPoly N Q p → p ≡ reduced N Q p
  reduced_same p h = reduced_from p p h.0 (λ k l. sym (mod-eq_of_lt (h.1 k (omega (arith, h.0)))))

  pub reduced_twice : (w : List ℕ) → 0 < Q → reduced N Q w ≡ reduced N Q (reduced N Q w)
  reduced_twice w q0 = reduced_same (reduced N Q w) (reduced_poly w q0)
