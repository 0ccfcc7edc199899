-- States the laws of words: they stand for integers modulo Q, and products of lists of words for products of polynomials.
use Rattle.std.specs.Prelude.{◌≡◌, ℕ, ◌<◌, List, length, ℤ, pos, slice_index}
use Rattle.algebra.specs.Ints.{Cong}
use Rattle.algebra.specs.Polys.{Poly, Alike, plus, mul}
use Rattle.algebra.specs.Words.{coeffs, word_of, words, product, fused}

pub record WordLaws : Type 0 where
  -- the word of an integer
  pub below : (Q : ℕ) (z : ℤ) → 0 < Q → word_of Q z < Q
  pub stands : (Q : ℕ) (z : ℤ) → 0 < Q → Cong Q (pos (word_of Q z)) z
  pub same : (Q : ℕ) (a b : ℤ) → 0 < Q → Cong Q a b → word_of Q a ≡ word_of Q b
  pub one : (Q a b : ℕ) → a < Q → b < Q → Cong Q (pos a) (pos b) → a ≡ b
  -- the only N words below Q that are congruent to a polynomial, to a product, to a sum with a product
  pub only_words : (N Q : ℕ) (p : Poly) (xs : List ℕ) → length xs ≡ N → ((k : ℕ) → k < N → slice_index xs k < Q)
      → Alike Q N (coeffs xs) p → xs ≡ words N Q p
  pub only_product : (N Q : ℕ) (a b xs : List ℕ) → length xs ≡ N → ((k : ℕ) → k < N → slice_index xs k < Q)
      → Alike Q N (coeffs xs) (mul N (coeffs a) (coeffs b)) → xs ≡ product N Q a b
  pub only_fused : (N Q : ℕ) (c a b xs : List ℕ) → length xs ≡ N → ((k : ℕ) → k < N → slice_index xs k < Q)
      → Alike Q N (coeffs xs) (plus (coeffs c) (mul N (coeffs a) (coeffs b))) → xs ≡ fused N Q c a b
  pub product_stands : (N Q : ℕ) (a b : List ℕ) → 0 < Q → Alike Q N (coeffs (product N Q a b)) (mul N (coeffs a) (coeffs b))
  pub fused_stands : (N Q : ℕ) (c a b : List ℕ) → 0 < Q
      → Alike Q N (coeffs (fused N Q c a b)) (plus (coeffs c) (mul N (coeffs a) (coeffs b)))
