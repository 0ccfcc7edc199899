-- Phases: linear in the words, and under extraction.
use Rattle.std.proofs.Common.{◌≡◌, ℕ, zero, suc, ◌+◌, ◌-◌, ◌<◌, Bool, cond, eqb, ℤ, pos, ◌+ℤ◌, ◌*ℤ◌, neg_ℤ, sym, refl, ap, ◌∙◌, ap₂, arith, lt-ltb, eq-eqb, ne_eqb}
use borrow.Author.Differences.{ints}
use lib.IntN.{*ℤ-zero, neg_ℤ-+ℤ}
use Rattle.algebra.proofs.Ring.{*ℤ-left, distribˡ, negʳ}
use Rattle.algebra.proofs.Sums.{sum_same, sum_zero, sum_add, sum_neg, sum_scale, sum_swap}
use Rattle.algebra.proofs.Cong.{cong_add, cong_sum, cong_scale}
use Rattle.algebra.specs.Ints.{Cong, sum_z}
use Rattle.algebra.specs.Polys.{Poly, Alike, plus, scale, mul, wrapped}
use Rattle.algebra.specs.Gates.{phase, extracted}

module _ (n : ℕ) (s : ℕ → ℤ) where
  -- of congruent words, of sums and multiples
  pub phase_alike : (Q : ℕ) (c c' : ℕ → ℤ) → Alike Q (suc n) c c' → Cong Q (phase n s c) (phase n s c')
  phase_alike Q c c' h = cong_add Q (h n (omega arith)) (cong_sum Q n _ _ (λ j l. cong_scale Q (s j) (h j (omega arith))))

  pub phase_plus : (c c' : ℕ → ℤ) → phase n s (plus c c') ≡ phase n s c +ℤ phase n s c'
  phase_plus c c' =
      ap (λ (x : ℤ). c n +ℤ c' n +ℤ x)
      (sum_same n _ _ (λ j l. distribˡ (s j) (c j) (c' j)) ∙ sum_add n (λ j. s j *ℤ c j) (λ j. s j *ℤ c' j))
      ∙ group (c n) (c' n) (sum_z n (λ j. s j *ℤ c j)) (sum_z n (λ j. s j *ℤ c' j))
    where
      group : (a b x y : ℤ) → a +ℤ b +ℤ (x +ℤ y) ≡ a +ℤ x +ℤ (b +ℤ y)
      group a b x y = omega (arith, ints)

  pub phase_scale : (a : ℤ) (c : ℕ → ℤ) → phase n s (scale a c) ≡ a *ℤ phase n s c
  phase_scale a c =
      ap (λ (x : ℤ). a *ℤ c n +ℤ x)
      (sum_same n _ _ (λ j l. *ℤ-left (s j) a (c j)) ∙ sum_scale n a (λ j. s j *ℤ c j))
      ∙ sym (distribˡ a (c n) (sum_z n (λ j. s j *ℤ c j)))

  pub phase_neg : (c : ℕ → ℤ) → phase n s (λ j. neg_ℤ (c j)) ≡ neg_ℤ (phase n s c)
  phase_neg c =
      ap (λ (x : ℤ). neg_ℤ (c n) +ℤ x) (sum_same n _ _ (λ j l. negʳ (s j) (c j)) ∙ sum_neg n (λ j. s j *ℤ c j))
      ∙ sym (neg_ℤ-+ℤ (c n) (sum_z n (λ j. s j *ℤ c j)))

  pub phase_sum : (m : ℕ) (g : ℕ → ℕ → ℤ) → phase n s (λ t. sum_z m (λ j. g j t)) ≡ sum_z m (λ j. phase n s (g j))
  phase_sum m g =
      ap (λ (x : ℤ). sum_z m (λ j. g j n) +ℤ x)
      (sum_same n _ (λ t. sum_z m (λ j. s t *ℤ g j t)) (λ t l. sym (sum_scale m (s t) (λ j. g j t)))
      ∙ sum_swap n m (λ t j. s t *ℤ g j t))
      ∙ sym (sum_add m (λ j. g j n) (λ j. sum_z n (λ t. s t *ℤ g j t)))

  -- of n zeros and b
  pub phase_last : (b : ℤ) → phase n s (λ t. cond (eqb t n) b (pos 0)) ≡ b
  phase_last b =
      ap₂ ◌+ℤ◌ (ap (λ (x : Bool). cond x b (pos 0)) (eq-eqb n n refl))
      (sum_zero n _ (λ t l. ap (λ (x : Bool). s t *ℤ cond x b (pos 0)) (ne_eqb t n (λ e. omega arith)) ∙ *ℤ-zero (s t)))
      ∙ none b
    where
      none : (b : ℤ) → b +ℤ pos 0 ≡ b
      none b = omega (arith, ints)

-- the words of extraction are what the product brings to place 0
extracted_is : (N : ℕ) (δ : ℤ) (c : Poly) (j : ℕ) → j < N → extracted N δ c j ≡ wrapped N j c 0
extracted_is N δ c zero l = ap (λ (x : Bool). cond x δ (c 0)) (ne_eqb 0 N (λ e. omega arith))
extracted_is N δ c (suc j) l =
    ap (λ (x : Bool). cond x δ (cond (eqb (suc j) 0) (c 0) (neg_ℤ (c (N - suc j))))) (ne_eqb (suc j) N (λ e. omega arith))
    ∙ ap (λ (x : Bool). cond x (c 0) (neg_ℤ (c (N - suc j)))) (ne_eqb (suc j) 0 (λ e. omega arith))
    ∙ ap (λ (x : ℕ). neg_ℤ (c x)) {x = N - suc j} {y = N + 0 - suc j} (omega arith)
    ∙ sym (ap (λ (x : Bool). cond x (neg_ℤ (c (N + 0 - suc j))) (c (0 - suc j))) (lt-ltb 0 (suc j) (omega arith)))

pub phase_extracted : (N : ℕ) (f : Poly) (δ : ℤ) (c : Poly) → phase N f (extracted N δ c) ≡ δ +ℤ mul N f c 0
unfolding mul
phase_extracted N f δ c = ap₂ ◌+ℤ◌
    (ap (λ (x : Bool). cond x δ (cond (eqb N 0) (c 0) (neg_ℤ (c (N - N))))) (eq-eqb N N refl))
    (sum_same N _ _ (λ j l. ap (λ (x : ℤ). f j *ℤ x) (extracted_is N δ c j l)))
