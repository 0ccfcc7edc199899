-- Rounding the words of a phase from one modulus to another.
use Rattle.std.proofs.Common.{◌≡◌, ℕ, suc, ◌+◌, ◌*◌, ◌%◌, ◌<◌, ◌≤◌, List, [], ◌∷◌, length, get_or, ℤ, pos, ◌+ℤ◌, ◌-ℤ◌, ◌*ℤ◌, neg_ℤ, nat_abs, sym, refl, ap, ◌∙◌, subst, ap₂, mod-lt, mul-le-mul_left, arith}
use borrow.Author.Differences.{ints}
use Rattle.std.proofs.lemmas.List.FromFn.{length-map-range_with_len, get_or-map-range_with_len}
use Rattle.algebra.proofs.Solve.{ring, forms}
use Rattle.algebra.proofs.Sums.{abs_add}
use Rattle.algebra.proofs.Norms.{weigh_sum}
use Rattle.algebra.proofs.Cong.{same, cong_trans}
use Rattle.algebra.proofs.Bridge.{mod_cong}
use Rattle.algebra.proofs.Phases.{phase_alike, phase_plus, phase_scale, phase_neg}
use Rattle.algebra.specs.Ints.{sum_z, Cong}
use Rattle.algebra.specs.Polys.{Alike, weight, scale}
use Rattle.algebra.specs.Words.{coeffs}
use Rattle.algebra.specs.Gates.{phase, rounded, Rounds, narrow}

-- one word
pub round_near : (R S c : ℕ) → 0 < R → nat_abs (pos (2 * R) *ℤ pos (rounded R S c) -ℤ pos (2 * S) *ℤ pos c) ≤ R
round_near R S c h = omega (arith, ints)

-- a whole phase: products are added first, each word is rounded once
module _ (n R S : ℕ) (c : ℕ → ℕ) (s : ℕ → ℤ) (x : ℤ) (some : 0 < R) (is : Cong R (phase n s (λ j. pos (c j))) x) where
  exact : ℤ
  exact = phase n s (λ j. pos (rounded R S (c j)))

  gap : ℕ → ℤ
  gap j = pos (2 * R) *ℤ pos (rounded R S (c j)) -ℤ pos (2 * S) *ℤ pos (c j)

  gaps : pos (2 * R) *ℤ exact -ℤ pos (2 * S) *ℤ phase n s (λ j. pos (c j)) ≡ gap n +ℤ sum_z n (λ j. s j *ℤ gap j)
  unfolding gap exact
  gaps = sym (
      phase_plus n s (scale (pos (2 * R)) (λ j. pos (rounded R S (c j)))) (λ j. neg_ℤ (pos (2 * S) *ℤ pos (c j)))
      ∙ ap₂ ◌+ℤ◌ (phase_scale n s (pos (2 * R)) (λ j. pos (rounded R S (c j))))
      (phase_neg n s (scale (pos (2 * S)) (λ j. pos (c j))) ∙ ap neg_ℤ (phase_scale n s (pos (2 * S)) (λ j. pos (c j)))))

  gaps_small : nat_abs (gap n +ℤ sum_z n (λ j. s j *ℤ gap j)) ≤ R * (1 + weight n s)
  unfolding gap
  gaps_small = omega (
    arith,
    abs_add (gap n) (sum_z n (λ j. s j *ℤ gap j)),
    round_near R S (c n) some,
    weigh_sum n R s gap (λ j l. round_near R S (c j) some),
  )

  move : (r t e p x q k : ℤ) → p ≡ x +ℤ q *ℤ k → r ≡ pos 2 *ℤ q
      → r *ℤ (e -ℤ t *ℤ k) -ℤ pos 2 *ℤ t *ℤ x ≡ r *ℤ e -ℤ pos 2 *ℤ t *ℤ p
  move r t e p x q k h g = rw (h, g) (ring (t ∷ e ∷ x ∷ q ∷ k ∷ []) (search forms depth 12) (search forms depth 12) refl)

  back : (e x : ℤ) → e ≡ e -ℤ x +ℤ x
  back e x = omega (arith, ints)

  pub rounds_exactly : Rounds R S (weight n s) x (phase n s (λ j. pos (rounded R S (c j))))
  unfolding exact
  rounds_exactly = record {
    near = exact -ℤ pos S *ℤ is.times;
    is = record { times = is.times; is = back exact (pos S *ℤ is.times) };
    small = subst (λ (z : ℤ). nat_abs z ≤ R * (1 + weight n s))
        (sym (move (pos (2 * R)) (pos S) exact (phase n s (λ j. pos (c j))) x (pos R) is.times is.is refl ∙ gaps)) gaps_small;
  }

pub rounds_more : (R S F H : ℕ) (x φ ψ : ℤ) → F ≤ H → Cong S ψ φ → Rounds R S F x φ → Rounds R S H x ψ
rounds_more R S F H x φ ψ l e h = record {
  near = h.near;
  is = cong_trans S e h.is;
  small = omega (arith, h.small, mul-le-mul_left R l);
}

-- the rounded words
pub narrow_long : (n R S : ℕ) (xs : List ℕ) → length (narrow n R S xs) ≡ n
unfolding narrow
narrow_long n R S xs = length-map-range_with_len (λ j. rounded R S (get_or xs j 0) % S) 0 n

pub narrow_at : (n R S : ℕ) (xs : List ℕ) (j : ℕ) → j < n → get_or (narrow n R S xs) j 0 ≡ rounded R S (get_or xs j 0) % S
unfolding narrow
narrow_at n R S xs j l = get_or-map-range_with_len (λ j. rounded R S (get_or xs j 0) % S) 0 n j j 0 l (omega arith)

pub narrow_below : (n R S : ℕ) (xs : List ℕ) → 0 < S → (j : ℕ) → j < n → get_or (narrow n R S xs) j 0 < S
narrow_below n R S xs h j l = subst (λ (x : ℕ). x < S) (sym (narrow_at n R S xs j l)) (mod-lt (rounded R S (get_or xs j 0)) h)

pub narrow_alike : (n R S : ℕ) (xs : List ℕ) → Alike S n (coeffs (narrow n R S xs)) (λ j. pos (rounded R S (get_or xs j 0)))
narrow_alike n R S xs j l =
    cong_trans S (same S _ _ (ap pos (narrow_at n R S xs j l))) (mod_cong S (rounded R S (get_or xs j 0)))

pub narrow_rounds : (n R S F : ℕ) (xs : List ℕ) (s : ℕ → ℤ) (x : ℤ) → 0 < R → weight n s ≤ F → Cong R (phase n s (coeffs xs)) x
    → Rounds R S F x (phase n s (coeffs (narrow (suc n) R S xs)))
narrow_rounds n R S F xs s x h w is =
    rounds_more R S (weight n s) F x (phase n s (λ j. pos (rounded R S (get_or xs j 0)))) (phase n s (coeffs (narrow (suc n) R S xs))) w
    (phase_alike n s S (coeffs (narrow (suc n) R S xs)) (λ j. pos (rounded R S (get_or xs j 0))) (narrow_alike (suc n) R S xs))
    (rounds_exactly n R S (λ j. get_or xs j 0) s x h is)
