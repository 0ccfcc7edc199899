-- Lists of words, and their products.
use Rattle.std.proofs.Common.{◌≡◌, ℕ, ◌<◌, List, length, get_or, pos, sym, ap, subst, arith}
use Rattle.std.proofs.lemmas.List.FromFn.{length-map-range_with_len, get_or-map-range_with_len, fill_by_all}
use Rattle.algebra.proofs.Bridge.{word_cong, word_below, word_is}
use Rattle.algebra.proofs.Cong.{same, cong_trans, cong_add}
use Rattle.algebra.proofs.Norms.{mul_alike}
use Rattle.algebra.specs.Polys.{Poly, Alike, plus, mul}
use Rattle.algebra.specs.Words.{coeffs, word_of, words, product, fused}

module _ (N Q : ℕ) where
  -- the words of a polynomial: N of them, below Q, congruent to its coefficients, and the only such list
  pub words_long : (p : Poly) → length (words N Q p) ≡ N
  unfolding words
  words_long p = length-map-range_with_len (λ k. word_of Q (p k)) 0 N

  pub words_at : (p : Poly) (k : ℕ) → k < N → get_or (words N Q p) k 0 ≡ word_of Q (p k)
  unfolding words
  words_at p k l = get_or-map-range_with_len (λ k. word_of Q (p k)) 0 N k k 0 l (omega arith)

  pub words_below : (p : Poly) → 0 < Q → (k : ℕ) → k < N → get_or (words N Q p) k 0 < Q
  words_below p h k l = subst (λ (x : ℕ). x < Q) (sym (words_at p k l)) (word_below Q (p k) h)

  pub words_alike : (p : Poly) → 0 < Q → Alike Q N (coeffs (words N Q p)) p
  words_alike p h k l = cong_trans Q (same Q _ _ (ap pos (words_at p k l))) (word_cong Q (p k) h)

  pub words_from : (p : Poly) (xs : List ℕ) → length xs ≡ N → ((k : ℕ) → k < N → get_or xs k 0 < Q) → Alike Q N (coeffs xs) p
      → xs ≡ words N Q p
  unfolding words
  words_from p xs e b c =
      fill_by_all (λ k. word_of Q (p k)) xs N 0 e (λ k l. word_is Q (get_or xs k 0) (p k) (b k l) (c k l))

  pub words_same : (p q : Poly) → 0 < Q → Alike Q N p q → words N Q p ≡ words N Q q
  words_same p q h c =
      words_from q (words N Q p) (words_long p) (words_below p h) (λ k l. cong_trans Q (words_alike p h k l) (c k l))

  -- the product of two lists
  pub product_long : (a b : List ℕ) → length (product N Q a b) ≡ N
  unfolding product
  product_long a b = words_long (mul N (coeffs a) (coeffs b))

  pub product_below : (a b : List ℕ) → 0 < Q → (k : ℕ) → k < N → get_or (product N Q a b) k 0 < Q
  unfolding product
  product_below a b = words_below (mul N (coeffs a) (coeffs b))

  pub product_alike : (a b : List ℕ) → 0 < Q → Alike Q N (coeffs (product N Q a b)) (mul N (coeffs a) (coeffs b))
  unfolding product
  product_alike a b = words_alike (mul N (coeffs a) (coeffs b))

  pub product_from : (a b xs : List ℕ) → length xs ≡ N → ((k : ℕ) → k < N → get_or xs k 0 < Q)
      → Alike Q N (coeffs xs) (mul N (coeffs a) (coeffs b)) → xs ≡ product N Q a b
  unfolding product
  product_from a b = words_from (mul N (coeffs a) (coeffs b))

  pub product_same : (a a' b b' : List ℕ) → 0 < Q → Alike Q N (coeffs a) (coeffs a') → Alike Q N (coeffs b) (coeffs b')
      → product N Q a b ≡ product N Q a' b'
  unfolding product
  product_same a a' b b' h ca cb =
      words_same (mul N (coeffs a) (coeffs b)) (mul N (coeffs a') (coeffs b')) h
      (mul_alike Q N (coeffs a) (coeffs a') (coeffs b) (coeffs b') ca cb)

  -- a list plus the product of two lists
  pub fused_long : (c a b : List ℕ) → length (fused N Q c a b) ≡ N
  unfolding fused
  fused_long c a b = words_long (plus (coeffs c) (mul N (coeffs a) (coeffs b)))

  pub fused_below : (c a b : List ℕ) → 0 < Q → (k : ℕ) → k < N → get_or (fused N Q c a b) k 0 < Q
  unfolding fused
  fused_below c a b = words_below (plus (coeffs c) (mul N (coeffs a) (coeffs b)))

  pub fused_alike : (c a b : List ℕ) → 0 < Q
      → Alike Q N (coeffs (fused N Q c a b)) (plus (coeffs c) (mul N (coeffs a) (coeffs b)))
  unfolding fused
  fused_alike c a b = words_alike (plus (coeffs c) (mul N (coeffs a) (coeffs b)))

  pub fused_from : (c a b xs : List ℕ) → length xs ≡ N → ((k : ℕ) → k < N → get_or xs k 0 < Q)
      → Alike Q N (coeffs xs) (plus (coeffs c) (mul N (coeffs a) (coeffs b))) → xs ≡ fused N Q c a b
  unfolding fused
  fused_from c a b = words_from (plus (coeffs c) (mul N (coeffs a) (coeffs b)))

  pub fused_same : (c c' a a' b b' : List ℕ) → 0 < Q
      → Alike Q N (coeffs c) (coeffs c') → Alike Q N (coeffs a) (coeffs a') → Alike Q N (coeffs b) (coeffs b')
      → fused N Q c a b ≡ fused N Q c' a' b'
  unfolding fused
  fused_same c c' a a' b b' h cc ca cb =
      words_same (plus (coeffs c) (mul N (coeffs a) (coeffs b))) (plus (coeffs c') (mul N (coeffs a') (coeffs b'))) h
      (λ k l. cong_add Q (cc k l) (mul_alike Q N (coeffs a) (coeffs a') (coeffs b) (coeffs b') ca cb k l))
