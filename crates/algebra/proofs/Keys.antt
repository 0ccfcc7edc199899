-- A polynomial taken by a key: what the product with the ring secret gives, and its noise.
use Rattle.std.proofs.Common.{◌≡◌, ℕ, zero, suc, ◌+◌, ◌*◌, ◌/◌, ◌^◌, ◌<◌, ◌≤◌, List, [], ◌∷◌, get_or, ℤ, pos, ◌+ℤ◌, ◌-ℤ◌, ◌*ℤ◌, nat_abs, sym, refl, ap, ◌∙◌, subst, mul-le-mul_left, arith}
use borrow.Author.Differences.{ints}
use Rattle.algebra.proofs.Solve.{ring, forms}
use Rattle.algebra.proofs.Sums.{sum_same, sum_add, sum_scale, sum_bound, abs_add}
use Rattle.algebra.proofs.Cong.{same, cong_refl, cong_trans, cong_add, cong_sum}
use Rattle.algebra.proofs.Poly.{mul_comm, mul_assoc, mul_left, one-mul, mul_linʳ, mul_plusʳ, mul_scaleˡ, mul_scaleʳ, mul_sumʳ, mul_monomial}
use Rattle.algebra.proofs.Norms.{mul_norm, mul_light, mul_alike, weight_one, weight_monomial, weight_scale}
use Rattle.algebra.proofs.Near.{choose, noise_of, near_to, near_more}
use Rattle.algebra.proofs.Digits.{word_digits, word_near, centred_cong}
use Rattle.algebra.specs.Ints.{Cong, sum_z}
use Rattle.algebra.specs.Polys.{Poly, Alike, Within, one, plus, scale, power, monomial, mul, weight}
use Rattle.algebra.specs.Near.{Nearby}
use Rattle.algebra.specs.Words.{coeffs}
use Rattle.algebra.specs.Digits.{Covers, value, centred, word_digit}
use Rattle.algebra.specs.Keys.{gadget, Key, StartKey, Selector, bit, Splits, split, taken}

-- the digits of words below Q split the polynomial of these words
pub split_words : (Q N P B d : ℕ) (xs : List ℕ) → Covers Q P B d → ((k : ℕ) → k < N → get_or xs k 0 < Q)
    → Splits Q N P B d (B / 2) (P / 2) (coeffs xs) (split Q P B d xs)
unfolding value
split_words Q N P B d xs ok below = record {
  digits = λ i b k l. word_digits Q P B d (get_or xs k 0) ok (below k l) i;
  together = λ k l.
      let x : ℕ = get_or xs k 0 in
      let D : ℕ → ℤ = word_digit Q P B d x in
      let v : ℤ = pos P *ℤ value B d D in
      let step : Cong Q (sum_z d (λ i. gadget P B i *ℤ split Q P B d xs i k)) (centred Q x +ℤ (v -ℤ centred Q x)) =
      same Q _ _ (
      sum_same d _ (λ i. pos P *ℤ (D i *ℤ pos (B ^ i))) (λ i b. order (pos P) (pos (B ^ i)) (D i))
      ∙ sum_scale d (pos P) (λ i. D i *ℤ pos (B ^ i))
      ∙ there v (centred Q x)) in
      record {
        noise = v -ℤ centred Q x;
        is = cong_trans Q step (cong_add Q (centred_cong Q x (below k l)) (cong_refl Q (v -ℤ centred Q x)));
        small = word_near Q P B d x ok (below k l);
      };
}
  where
    order : (p b w : ℤ) → p *ℤ b *ℤ w ≡ p *ℤ (w *ℤ b)
    order p b w = ring (p ∷ b ∷ w ∷ []) (search forms depth 9) (search forms depth 9) refl

    there : (w c : ℤ) → w ≡ c +ℤ (w -ℤ c)
    there w c = omega (arith, ints)

-- what is taken, added up term by term
pub taken_steps : (Q N d : ℕ) (w D p : ℕ → Poly) → Alike Q N (w 0) (λ k. pos 0)
    → ((i : ℕ) → i < d → Alike Q N (w (suc i)) (plus (w i) (mul N (D i) (p i))))
    → Alike Q N (w d) (taken N d D p)
unfolding taken sum_z
taken_steps Q N zero w D p none next k l = none k l
taken_steps Q N (suc d) w D p none next k l = cong_trans Q (next d (omega arith) k l)
    (cong_add Q (taken_steps Q N d w D p none (λ i b. next i (omega arith)) k l) (cong_refl Q (mul N (D d) (p d) k)))

module _ (Q N P B d E b G : ℕ) (f c : Poly) (D p : ℕ → Poly) (cut : Splits Q N P B d b G c D) where
  -- the noises of a key
  abbrev Noises : Poly → (ℕ → Poly) → Type 0
  Noises t e = (i : ℕ) → i < d → Alike Q N (mul N f (p i)) (plus (scale (gadget P B i) t) (e i)) × Within N E (e i)

  noises : (t : Poly) → Key Q N P B d E f t p → (e : ℕ → Poly) × Noises t e
  noises t key = choose (λ k. pos 0) d (λ i e. Alike Q N (mul N f (p i)) (plus (scale (gadget P B i) t) e) × Within N E e)
      (λ i l. noise_of Q N E (mul N f (p i)) (scale (gadget P B i) t) (key i l))

  -- f times what is taken: t times the digits together, and the digits' products with the noises
  exact : (t : Poly) (e : ℕ → Poly) → Noises t e
      → Alike Q N (mul N f (taken N d D p)) (plus (mul N t (λ k. sum_z d (λ i. gadget P B i *ℤ D i k))) (taken N d D e))
  unfolding taken
  exact t e h k l = cong_trans Q
      (same Q _ _ (mul_sumʳ N d f (λ i. mul N (D i) (p i)) k l ∙ sum_same d _ _ (λ i b. mul_left N f (D i) (p i) k l)))
      (cong_trans Q
      (cong_sum Q d _ _ (λ i b. mul_alike Q N (D i) (D i) _ _ (λ k l. cong_refl Q _) (h i b).0 k l))
      (same Q _ _ (
      sum_same d _ (λ i. gadget P B i *ℤ mul N t (D i) k +ℤ mul N (D i) (e i) k) (λ i b.
      mul_plusʳ N (D i) (scale (gadget P B i) t) (e i) k l
      ∙ ap (λ (x : ℤ). x +ℤ mul N (D i) (e i) k)
      (mul_scaleʳ N (gadget P B i) (D i) t k l
      ∙ ap (λ (x : ℤ). gadget P B i *ℤ x) (mul_comm N (D i) t k l)))
      ∙ sum_add d (λ i. gadget P B i *ℤ mul N t (D i) k) (λ i. mul N (D i) (e i) k)
      ∙ ap (λ (x : ℤ). x +ℤ sum_z d (λ i. mul N (D i) (e i) k)) (sym (mul_linʳ N d (gadget P B) D t k l)))))

  taken_small : (e : ℕ → Poly) → ((i : ℕ) → i < d → Within N E (e i)) → Within N (N * d * b * E) (taken N d D e)
  unfolding taken
  taken_small e h k l =
      let s : nat_abs (sum_z d (λ i. mul N (D i) (e i) k)) ≤ d * (N * b * E) =
      sum_bound d (N * b * E) (λ i. mul N (D i) (e i) k) (λ i a. mul_norm N b E (D i) (e i) (cut.digits i a) (h i a) k l) in
      omega arith

  -- for any t that makes of what the split loses no more than L
  pub taken_near : (t : Poly) (L : ℕ) → Key Q N P B d E f t p → ((x : Poly) → Within N G x → Within N L (mul N t x))
      → Nearby Q N (N * d * b * E + L) (mul N f (taken N d D p)) (mul N t c)
  taken_near t L key keeps k l =
      let sum : Poly = λ k. sum_z d (λ i. gadget P B i *ℤ D i k) in
      let e : (e : ℕ → Poly) × Noises t e = noises t key in
      let lost : (x : Poly) × (Alike Q N sum (plus c x) × Within N G x) = noise_of Q N G sum c cut.together in
      let rest : ℤ = taken N d D e.0 k in
      record {
        noise = mul N t lost.0 k +ℤ rest;
        is = cong_trans Q (exact t e.0 e.1 k l)
            (cong_trans Q
            (cong_add Q (mul_alike Q N t t sum (plus c lost.0) (λ k l. cong_refl Q (t k)) lost.1.0 k l) (cong_refl Q rest))
            (same Q _ _ (ap (λ (x : ℤ). x +ℤ rest) (mul_plusʳ N t c lost.0 k l)
            ∙ group (mul N t c k) (mul N t lost.0 k) rest)));
        small = omega (
          arith,
          abs_add (mul N t lost.0 k) rest,
          keeps lost.0 lost.1.1 k l,
          small-noise e.0 e.1 k l,
        );
      }
    where
      small-noise : (e : ℕ → Poly) → Noises t e → Within N (N * d * b * E) (taken N d D e)
      small-noise e h = taken_small e (λ i a. (h i a).1)

      group : (x y z : ℤ) → x +ℤ y +ℤ z ≡ x +ℤ (y +ℤ z)
      group x y z = omega (arith, ints)

  -- by a start key: c itself
  pub start_near : StartKey Q N P B d E f p → Nearby Q N (N * d * b * E + G) (mul N f (taken N d D p)) c
  start_near key k l = near_to Q
      (taken_near one G key (λ x h k l. subst (λ (y : ℤ). nat_abs y ≤ G) (sym (one-mul N x k l)) (h k l)) k l)
      (same Q _ _ (one-mul N c k l))

  -- by a selector of m: m times f c
  pub selector_near : (m : Poly) (w F : ℕ) → weight N m ≤ w → weight N f ≤ F → Selector Q N P B d E f m p
      → Nearby Q N (N * d * b * E + w * (G * F)) (mul N f (taken N d D p)) (mul N m (mul N f c))
  selector_near m w F hm hf key k l = near_to Q
      (taken_near (mul N m f) (w * (G * F)) key (λ x h k l.
      let y : nat_abs (mul N m (mul N f x) k) ≤ w * (F * G) =
      mul_light N w (F * G) m (mul N f x) hm (mul_light N F G f x hf h) k l in
      subst (λ (z : ℤ). nat_abs z ≤ w * (G * F)) (sym (mul_assoc N m f x k l)) (omega arith)) k l)
      (same Q _ _ (mul_assoc N m f c k l))

  -- of a bit, and of a power of X
  pub bit_near : (s F : ℕ) → weight N f ≤ F → Selector Q N P B d E f (bit s) p
      → Nearby Q N (N * d * b * E + s * (G * F)) (mul N f (taken N d D p)) (scale (pos s) (mul N f c))
  bit_near s F hf key k l = near_to Q
      (selector_near (bit s) s F (omega (arith, weight_scale N (pos s) one, mul-le-mul_left s (weight_one N))) hf key k l)
      (same Q _ _ (mul_scaleˡ N (pos s) one (mul N f c) k l ∙ ap (λ (x : ℤ). pos s *ℤ x) (one-mul N (mul N f c) k l)))

  pub monomial_near : (i F : ℕ) → weight N f ≤ F → Selector Q N P B d E f (monomial N i) p
      → Nearby Q N (N * d * b * E + G * F) (mul N f (taken N d D p)) (power N i (mul N f c))
  monomial_near i F hf key k l = near_more Q (omega arith) (near_to Q
      (selector_near (monomial N i) 1 F (weight_monomial N i) hf key k l)
      (same Q _ _ (mul_monomial N i (mul N f c) k l)))
