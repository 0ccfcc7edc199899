-- The ring of integer polynomials modulo X^N + 1: its product is commutative, associative and linear, with the unit 1.
use Rattle.std.proofs.Common.{◌≡◌, ℕ, zero, suc, ◌+◌, [], ◌∷◌, ℤ, pos, negsuc, ◌+ℤ◌, ◌*ℤ◌, neg_ℤ, sym, refl, ap, ◌∙◌, ap₂, arith}
use borrow.Author.Differences.{ints}
use lib.IntN.{*ℤ_comm, *ℤ-zero, zero-*ℤ, *ℤ-one}
use Rattle.algebra.proofs.Ring.{*ℤ-left, *ℤ-assoc, distribʳ}
use Rattle.algebra.proofs.Solve.{ring, forms}
use Rattle.algebra.proofs.Sums.{sum_same, sum_add, sum_scale, sum_swap, sum_front, sum_one}
use Rattle.algebra.proofs.Powers.{power_shift, power_sum, power_same, shift_same, power_wrapped}
use Rattle.algebra.proofs.Powers.{power_add, power_N, monomial_here, monomial_there}
use Rattle.algebra.specs.Ints.{sum_z}
use Rattle.algebra.specs.Polys.{Poly, Same, one, plus, minus, scale, shift, power, monomial, wrapped, mul}

-- the product as a sum of powers of X
pub mul_powers : (N : ℕ) (p q : Poly) → Same N (mul N p q) (λ k. sum_z N (λ i. p i *ℤ power N i q k))
unfolding mul
mul_powers N p q k l =
    sum_same N _ _ (λ i b. ap (λ (x : ℤ). p i *ℤ x) (sym (power_wrapped N i q (omega arith) k l)))

module _ (N : ℕ) where
  -- equal factors
  pub mul_sameˡ : (p p' q : Poly) → Same N p p' → Same N (mul N p q) (mul N p' q)
  unfolding mul
  mul_sameˡ p p' q h k l = sum_same N _ _ (λ i b. ap (λ (x : ℤ). x *ℤ wrapped N i q k) (h i b))

  pub mul_sameʳ : (p q q' : Poly) → Same N q q' → Same N (mul N p q) (mul N p q')
  mul_sameʳ p q q' h k l =
      mul_powers N p q k l
      ∙ sum_same N _ _ (λ i b. ap (λ (x : ℤ). p i *ℤ x) (power_same N i q q' h k l))
      ∙ sym (mul_powers N p q' k l)

  -- linear in both factors
  pub mul_linˡ : (n : ℕ) (c : ℕ → ℤ) (f : ℕ → Poly) (q : Poly)
      → Same N (mul N (λ k. sum_z n (λ j. c j *ℤ f j k)) q) (λ k. sum_z n (λ j. c j *ℤ mul N (f j) q k))
  unfolding mul
  mul_linˡ n c f q k l =
      sum_same N _ (λ i. sum_z n (λ j. c j *ℤ (f j i *ℤ wrapped N i q k))) (λ i b.
      *ℤ_comm (sum_z n (λ j. c j *ℤ f j i)) (wrapped N i q k)
      ∙ sym (sum_scale n (wrapped N i q k) (λ j. c j *ℤ f j i))
      ∙ sum_same n _ _ (λ j b. turn (wrapped N i q k) (c j) (f j i)))
      ∙ sum_swap N n (λ i j. c j *ℤ (f j i *ℤ wrapped N i q k))
      ∙ sum_same n _ _ (λ j b. sum_scale N (c j) (λ i. f j i *ℤ wrapped N i q k))
    where
      turn : (x a b : ℤ) → x *ℤ (a *ℤ b) ≡ a *ℤ (b *ℤ x)
      turn x a b = ring (x ∷ a ∷ b ∷ []) (search forms depth 9) (search forms depth 9) refl

  pub mul_linʳ : (n : ℕ) (c : ℕ → ℤ) (f : ℕ → Poly) (p : Poly)
      → Same N (mul N p (λ k. sum_z n (λ j. c j *ℤ f j k))) (λ k. sum_z n (λ j. c j *ℤ mul N p (f j) k))
  mul_linʳ n c f p k l =
      mul_powers N p (λ k. sum_z n (λ j. c j *ℤ f j k)) k l
      ∙ sum_same N _ (λ i. sum_z n (λ j. c j *ℤ (p i *ℤ power N i (f j) k))) (λ i b.
      ap (λ (x : ℤ). p i *ℤ x) (power_sum N i n c f k l)
      ∙ sym (sum_scale n (p i) (λ j. c j *ℤ power N i (f j) k))
      ∙ sum_same n _ _ (λ j b. *ℤ-left (p i) (c j) (power N i (f j) k)))
      ∙ sum_swap N n (λ i j. c j *ℤ (p i *ℤ power N i (f j) k))
      ∙ sum_same n _ _ (λ j b.
      sum_scale N (c j) (λ i. p i *ℤ power N i (f j) k) ∙ ap (λ (x : ℤ). c j *ℤ x) (sym (mul_powers N p (f j) k l)))

  -- powers of X go in and out
  shift_mul : (p q : Poly) → Same N (shift N (mul N p q)) (λ k. sum_z N (λ i. p i *ℤ power N (suc i) q k))
  unfolding power
  shift_mul p q k l = shift_same N _ _ (mul_powers N p q) k l ∙ power_sum N 1 N p (λ i. power N i q) k l

  mul_shiftʳ : (p q : Poly) → Same N (mul N p (shift N q)) (shift N (mul N p q))
  mul_shiftʳ p q k l =
      mul_powers N p (shift N q) k l
      ∙ sum_same N _ _ (λ i b. ap (λ (x : ℤ). p i *ℤ x) (power_shift N i q k l))
      ∙ sym (shift_mul p q k l)

mul_shiftˡ : (N : ℕ) (p q : Poly) → Same N (mul N (shift N p) q) (shift N (mul N p q))
unfolding power sum_z
mul_shiftˡ zero p q k l = absurd (omega arith)
mul_shiftˡ (suc m) p q k l =
    mul_powers (suc m) (shift (suc m) p) q k l
    ∙ sum_front m (λ i. shift (suc m) p i *ℤ power (suc m) i q k)
    ∙ ends (sum_z m (λ i. p i *ℤ power (suc m) (suc i) q k)) (p m) (q k) (power (suc m) (suc m) q k) (power_N (suc m) q k l)
    ∙ sym (shift_mul (suc m) p q k l)
  where
    ends : (s a b c : ℤ) → c ≡ neg_ℤ b → neg_ℤ a *ℤ b +ℤ s ≡ s +ℤ a *ℤ c
    ends s a b c e = rw e (ring (s ∷ a ∷ b ∷ []) (search forms depth 9) (search forms depth 9) refl)

module _ (N : ℕ) where
  pub mul_powerˡ : (i : ℕ) (p q : Poly) → Same N (mul N (power N i p) q) (power N i (mul N p q))
  unfolding power
  mul_powerˡ zero p q k l = refl
  mul_powerˡ (suc i) p q k l = mul_shiftˡ N (power N i p) q k l ∙ shift_same N _ _ (mul_powerˡ i p q) k l

  pub mul_powerʳ : (i : ℕ) (p q : Poly) → Same N (mul N p (power N i q)) (power N i (mul N p q))
  unfolding power
  mul_powerʳ zero p q k l = refl
  mul_powerʳ (suc i) p q k l = mul_shiftʳ N p (power N i q) k l ∙ shift_same N _ _ (mul_powerʳ i p q) k l

  -- the laws of a commutative ring
  pub mul_assoc : (p q r : Poly) → Same N (mul N (mul N p q) r) (mul N p (mul N q r))
  mul_assoc p q r k l =
      mul_sameˡ N (mul N p q) (λ k. sum_z N (λ i. p i *ℤ power N i q k)) r (mul_powers N p q) k l
      ∙ mul_linˡ N N p (λ i. power N i q) r k l
      ∙ sum_same N _ _ (λ i b. ap (λ (x : ℤ). p i *ℤ x) (mul_powerˡ i q r k l))
      ∙ sym (mul_powers N p (mul N q r) k l)

  pub mul-one : (p : Poly) → Same N (mul N p one) p
  unfolding lib.IntN.one
  mul-one p k l =
      mul_powers N p one k l
      ∙ sum_one N k (λ i. p i *ℤ power N i one k) l
      (λ i b d. ap (λ (x : ℤ). p i *ℤ x) (monomial_there N i k b l d) ∙ *ℤ-zero (p i))
      ∙ ap (λ (x : ℤ). p k *ℤ x) (monomial_here N k l)
      ∙ *ℤ-one (p k)

  pub mul_comm : (p q : Poly) → Same N (mul N p q) (mul N q p)
  mul_comm p q k l = sym (
      mul_sameʳ N q p (λ k. sum_z N (λ i. p i *ℤ power N i one k)) (λ k l. sym (mul-one p k l) ∙ mul_powers N p one k l) k l
      ∙ mul_linʳ N N p (λ i. power N i one) q k l
      ∙ sum_same N _ _ (λ i b. ap (λ (x : ℤ). p i *ℤ x) (mul_powerʳ i q one k l ∙ power_same N i (mul N q one) q (mul-one q) k l))
      ∙ sym (mul_powers N p q k l))

  pub one-mul : (p : Poly) → Same N (mul N one p) p
  one-mul p k l = mul_comm one p k l ∙ mul-one p k l

  pub mul_left : (p q r : Poly) → Same N (mul N p (mul N q r)) (mul N q (mul N p r))
  mul_left p q r k l =
      sym (mul_assoc p q r k l) ∙ mul_sameˡ N (mul N p q) (mul N q p) r (mul_comm p q) k l ∙ mul_assoc q p r k l

  -- sums and multiples
  pub mul_plusˡ : (p q r : Poly) → Same N (mul N (plus p q) r) (plus (mul N p r) (mul N q r))
  unfolding mul
  mul_plusˡ p q r k l =
      sum_same N _ _ (λ i b. distribʳ (p i) (q i) (wrapped N i r k))
      ∙ sum_add N (λ i. p i *ℤ wrapped N i r k) (λ i. q i *ℤ wrapped N i r k)

  pub mul_plusʳ : (p q r : Poly) → Same N (mul N p (plus q r)) (plus (mul N p q) (mul N p r))
  mul_plusʳ p q r k l =
      mul_comm p (plus q r) k l ∙ mul_plusˡ q r p k l ∙ ap₂ ◌+ℤ◌ (mul_comm q p k l) (mul_comm r p k l)

  pub mul_scaleˡ : (c : ℤ) (p q : Poly) → Same N (mul N (scale c p) q) (scale c (mul N p q))
  unfolding mul
  mul_scaleˡ c p q k l =
      sum_same N _ _ (λ i b. *ℤ-assoc c (p i) (wrapped N i q k))
      ∙ sum_scale N c (λ i. p i *ℤ wrapped N i q k)

  pub mul_scaleʳ : (c : ℤ) (p q : Poly) → Same N (mul N p (scale c q)) (scale c (mul N p q))
  mul_scaleʳ c p q k l =
      mul_comm p (scale c q) k l ∙ mul_scaleˡ c q p k l ∙ ap (λ (x : ℤ). c *ℤ x) (mul_comm q p k l)

  pub mul_negʳ : (p q : Poly) → Same N (mul N p (λ k. neg_ℤ (q k))) (λ k. neg_ℤ (mul N p q k))
  mul_negʳ p q k l =
      mul_sameʳ N p (λ k. neg_ℤ (q k)) (scale (negsuc 0) q) (λ k l. as-scale (q k)) k l
      ∙ mul_scaleʳ (negsuc 0) p q k l
      ∙ sym (as-scale (mul N p q k))
    where
      as-scale : (x : ℤ) → neg_ℤ x ≡ negsuc 0 *ℤ x
      as-scale x = omega (arith, ints)

  pub mul_minusʳ : (p q r : Poly) → Same N (mul N p (minus q r)) (minus (mul N p q) (mul N p r))
  mul_minusʳ p q r k l =
      mul_plusʳ p q (λ k. neg_ℤ (r k)) k l ∙ ap (λ (x : ℤ). mul N p q k +ℤ x) (mul_negʳ p r k l)

  pub mul_zeroʳ : (p : Poly) → Same N (mul N p (λ k. pos 0)) (λ k. pos 0)
  mul_zeroʳ p k l = mul_scaleʳ (pos 0) p (λ k. pos 0) k l ∙ zero-*ℤ (mul N p (λ k. pos 0) k)

  pub mul_sumʳ : (n : ℕ) (p : Poly) (f : ℕ → Poly)
      → Same N (mul N p (λ k. sum_z n (λ j. f j k))) (λ k. sum_z n (λ j. mul N p (f j) k))
  unfolding sum_z
  mul_sumʳ zero p f k l = mul_zeroʳ p k l
  mul_sumʳ (suc n) p f k l =
      mul_plusʳ p (λ k. sum_z n (λ j. f j k)) (f n) k l
      ∙ ap (λ (x : ℤ). x +ℤ mul N p (f n) k) (mul_sumʳ n p f k l)

  -- products with powers of X
  pub mul_monomial : (i : ℕ) (q : Poly) → Same N (mul N (monomial N i) q) (power N i q)
  mul_monomial i q k l = mul_powerˡ i one q k l ∙ power_same N i (mul N one q) q (one-mul q) k l

  pub monomials : (i j : ℕ) → Same N (mul N (monomial N i) (monomial N j)) (monomial N (i + j))
  monomials i j k l = mul_monomial i (monomial N j) k l ∙ sym (power_add N i j one k l)

  pub monomial_N : Same N (monomial N N) (scale (negsuc 0) one)
  monomial_N k l = power_N N one k l ∙ omega (arith, ints)
