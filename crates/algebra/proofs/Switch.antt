-- The switch to the small secret: the phase stays, up to the digits' products with the noises of the rows.
use Rattle.std.proofs.Common.{◌≡◌, ℕ, suc, ◌*◌, ◌/◌, ◌^◌, ◌<◌, ◌≤◌, cond, eqb, List, [], ◌∷◌, get_or, ℤ, pos, ◌+ℤ◌, ◌-ℤ◌, ◌*ℤ◌, nat_abs, sym, refl, ap, ◌∙◌, subst, ap₂, mul-le-mul, arith}
use borrow.Author.Differences.{ints}
use Rattle.algebra.proofs.Solve.{ring, forms}
use Rattle.algebra.proofs.Sums.{sum_same, sum_scale, sum_add, sum_bound}
use Rattle.algebra.proofs.Norms.{abs_mul}
use Rattle.algebra.proofs.Cong.{same, cong_refl, cong_trans, cong_add, cong_scale, cong_sum}
use Rattle.algebra.proofs.Words.{words_alike}
use Rattle.algebra.proofs.Near.{choose, cong_near}
use Rattle.algebra.proofs.Digits.{word_digits, word_near, centred_cong}
use Rattle.algebra.proofs.Phases.{phase_alike, phase_plus, phase_scale, phase_sum, phase_last}
use Rattle.algebra.specs.Ints.{sum_z, Cong}
use Rattle.algebra.specs.Near.{Near}
use Rattle.algebra.specs.Words.{coeffs, words}
use Rattle.algebra.specs.Digits.{Covers, value, centred, word_digit}
use Rattle.algebra.specs.Gates.{phase, SwitchKey, switched, switch}

-- the phase of the switched words, exactly
pub phase_switched : (N n k : ℕ) (s : ℕ → ℤ) (D : ℕ → ℕ → ℤ) (row : ℕ → ℕ → ℕ → ℤ) (b : ℤ)
    → phase n s (switched N n k D row b) ≡ b +ℤ sum_z N (λ j. sum_z k (λ i. D j i *ℤ phase n s (row j i)))
phase_switched N n k s D row b =
    phase_plus n s (λ t. cond (eqb t n) b (pos 0)) (λ t. sum_z N (λ j. sum_z k (λ i. D j i *ℤ row j i t)))
    ∙ ap₂ ◌+ℤ◌ (phase_last n s b) (
    phase_sum n s N (λ j t. sum_z k (λ i. D j i *ℤ row j i t))
    ∙ sum_same N _ _ (λ j l.
    phase_sum n s k (λ i t. D j i *ℤ row j i t) ∙ sum_same k _ _ (λ i c. phase_scale n s (D j i) (row j i))))

module _ (M N n C k Z H : ℕ) (f s : ℕ → ℤ) (row : ℕ → ℕ → ℕ → ℤ) (D : ℕ → ℕ → ℤ) (y : ℕ → ℤ)
    (key : SwitchKey M N n C k Z f s row)
    (small : (j : ℕ) → j < N → (i : ℕ) → i < k → nat_abs (D j i) ≤ H)
    (together : (j : ℕ) → j < N → Cong M (value C k (D j)) (y j)) where
  -- the noises of the rows
  abbrev Noise : ℕ → ℕ → ℤ → Type 0
  Noise j i x = Cong M (phase n s (row j i)) (f j *ℤ pos (C ^ i) +ℤ x) × (nat_abs x ≤ Z)

  abbrev Noises : (ℕ → ℕ → ℤ) → Type 0
  Noises e = (j : ℕ) → j < N → (i : ℕ) → i < k → Noise j i (e j i)

  noises : (e : ℕ → ℕ → ℤ) × Noises e
  noises = choose (λ i. pos 0) N (λ j e. (i : ℕ) → i < k → Noise j i (e i)) (λ j a.
      choose (pos 0) k (Noise j) (λ i b. ((key j a i b).noise, ((key j a i b).is, (key j a i b).small))))

  one_word : (e : ℕ → ℕ → ℤ) → Noises e → (j : ℕ) → j < N
      → Cong M (sum_z k (λ i. D j i *ℤ phase n s (row j i))) (f j *ℤ y j +ℤ sum_z k (λ i. D j i *ℤ e j i))
  unfolding value
  one_word e h j a = cong_trans M (cong_sum M k _ _ (λ i b. cong_scale M (D j i) (h j a i b).0))
      (cong_trans M
      (same M _ _ (
      sum_same k _ (λ i. f j *ℤ (D j i *ℤ pos (C ^ i)) +ℤ D j i *ℤ e j i) (λ i b. open_up (D j i) (f j) (pos (C ^ i)) (e j i))
      ∙ sum_add k (λ i. f j *ℤ (D j i *ℤ pos (C ^ i))) (λ i. D j i *ℤ e j i)
      ∙ ap (λ (x : ℤ). x +ℤ sum_z k (λ i. D j i *ℤ e j i)) (sum_scale k (f j) (λ i. D j i *ℤ pos (C ^ i)))))
      (cong_add M (cong_scale M (f j) (together j a)) (cong_refl M (sum_z k (λ i. D j i *ℤ e j i)))))
    where
      open_up : (D f g e : ℤ) → D *ℤ (f *ℤ g +ℤ e) ≡ f *ℤ (D *ℤ g) +ℤ D *ℤ e
      open_up D f g e = ring (D ∷ f ∷ g ∷ e ∷ []) (search forms depth 9) (search forms depth 9) refl

  all : ℤ
  all = sum_z N (λ j. sum_z k (λ i. D j i *ℤ noises.0 j i))

  all_small : nat_abs all ≤ N * k * H * Z
  unfolding all
  all_small =
      let h : nat_abs (sum_z N (λ j. sum_z k (λ i. D j i *ℤ noises.0 j i))) ≤ N * (k * (H * Z)) =
      sum_bound N (k * (H * Z)) _ (λ j a. sum_bound k (H * Z) _ (λ i b.
      subst (λ (x : ℕ). x ≤ H * Z) (sym (abs_mul (D j i) (noises.0 j i))) (mul-le-mul (small j a i b) (noises.1 j a i b).1))) in
      omega arith

  pub switch_near : (b : ℤ) → Near M (N * k * H * Z) (phase n s (switched N n k D row b)) (b +ℤ sum_z N (λ j. f j *ℤ y j))
  unfolding all
  switch_near b = record {
    noise = all;
    is = cong_trans M (same M _ _ (phase_switched N n k s D row b))
        (cong_trans M (cong_add M (cong_refl M b) (cong_sum M N _ _ (λ j a. one_word noises.0 noises.1 j a)))
        (same M _ _ (ap (λ (x : ℤ). b +ℤ x) (sum_add N (λ j. f j *ℤ y j) (λ j. sum_z k (λ i. D j i *ℤ noises.0 j i)))
        ∙ group b (sum_z N (λ j. f j *ℤ y j)) all)));
    small = all_small;
  }
    where
      group : (b x y : ℤ) → b +ℤ (x +ℤ y) ≡ b +ℤ x +ℤ y
      group b x y = omega (arith, ints)

-- the switch of words below M
pub switch_phase : (M N n C k Z : ℕ) (f s : ℕ → ℤ) (row : ℕ → ℕ → ℕ → ℤ) (xs : List ℕ)
    → 0 < M → Covers M 1 C k → SwitchKey M N n C k Z f s row → ((j : ℕ) → j < N → get_or xs j 0 < M)
    → Near M (N * k * (C / 2) * Z) (phase n s (coeffs (switch N n M C k row xs))) (phase N f (coeffs xs))
unfolding switch
switch_phase M N n C k Z f s row xs some ok key below =
    let D : ℕ → ℕ → ℤ = λ j. word_digit M 1 C k (get_or xs j 0) in
    let new : ℕ → ℤ = switched N n k D row (pos (get_or xs N 0)) in
    cong_near M (phase_alike n s M (coeffs (words (suc n) M new)) new (words_alike (suc n) M new some))
    (switch_near M N n C k Z (C / 2) f s row D (coeffs xs) key
    (λ j a i b. word_digits M 1 C k (get_or xs j 0) ok (below j a) i)
    (λ j a. cong_trans M
    (same M _ _ (exactly (value C k (D j)) (centred M (get_or xs j 0)) (word_near M 1 C k (get_or xs j 0) ok (below j a))))
    (centred_cong M (get_or xs j 0) (below j a)))
    (pos (get_or xs N 0)))
  where
    exactly : (v c : ℤ) → nat_abs (pos 1 *ℤ v -ℤ c) ≤ 0 → v ≡ c
    exactly v c h = omega (arith, ints)
