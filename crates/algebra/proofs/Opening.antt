-- Words that hold a bit: sealed, inverted and opened.
use Rattle.std.proofs.Common.{◌≡◌, ℕ, zero, suc, ◌-◌, ◌*◌, ◌/◌, ◌%◌, ◌<◌, ◌≤◌, cond, eqb, ◌⊎◌, List, ℤ, pos, negsuc, ◌+ℤ◌, ◌-ℤ◌, ◌*ℤ◌, neg_ℤ, nat_abs, refl, ap, ◌∙◌, subst, ap₂, inl, inr, mod-lt, arith}
use borrow.Author.Differences.{ints}
use Rattle.algebra.proofs.Cong.{same, cong_refl, cong_trans, cong_add}
use Rattle.algebra.proofs.Bridge.{mod_cong}
use Rattle.algebra.proofs.Words.{words_alike}
use Rattle.algebra.proofs.Near.{cong_near, near_minus, near_refl, near_more, near_to}
use Rattle.algebra.proofs.Phases.{phase_alike, phase_plus, phase_neg, phase_last}
use Rattle.algebra.proofs.Letters.{exponent_phase}
use Rattle.algebra.specs.Ints.{sum_z, Cong}
use Rattle.algebra.specs.Polys.{plus}
use Rattle.algebra.specs.Words.{coeffs}
use Rattle.algebra.specs.Gates.{phase, Holds, invert, exponent}

-- the last word settles the phase
pub sealed : (q n : ℕ) (s c : ℕ → ℤ) (v : ℤ) → Cong q (c n) (v -ℤ sum_z n (λ j. s j *ℤ c j)) → Cong q (phase n s c) v
sealed q n s c v h =
    cong_trans q (cong_add q h (cong_refl q (sum_z n (λ j. s j *ℤ c j)))) (same q _ _ (back v (sum_z n (λ j. s j *ℤ c j))))
  where
    back : (v x : ℤ) → v -ℤ x +ℤ x ≡ v
    back v x = omega (arith, ints)

-- the opposite bit, with the same noise
pub invert_holds : (n q V m : ℕ) (s : ℕ → ℤ) (xs : List ℕ) → 0 < q → m ≤ 1 → Holds n q V s m xs → Holds n q V s (1 - m) (invert n q xs)
unfolding invert
invert_holds n q V m s xs some l h =
    let b : ℕ → ℤ = λ j. cond (eqb j n) (pos (q / 4)) (pos 0) in
    let c : ℕ → ℤ = λ j. neg_ℤ (coeffs xs j) in
    cong_near q
    (cong_trans q (phase_alike n s q _ (plus b c) (words_alike (suc n) q (plus b c) some))
    (same q _ _ (phase_plus n s b c ∙ ap₂ ◌+ℤ◌ (phase_last n s (pos (q / 4))) (phase_neg n s (coeffs xs)))))
    (near_more q (omega arith) (near_to q (near_minus q (near_refl q 0 (pos (q / 4))) h) (same q _ _ (by m l))))
  where
    by : (m : ℕ) → m ≤ 1 → pos (q / 4) -ℤ pos (m * (q / 4)) ≡ pos ((1 - m) * (q / 4))
    by zero l = omega (arith, ints)
    by (suc zero) l = omega (arith, ints)
    by (suc (suc m)) l = absurd (omega arith)

-- a phase below q, near 0 and near a quarter of q, with a noise below an eighth
near_none : (g r : ℕ) (ε τ : ℤ) → r < 8 * g → pos r ≡ ε +ℤ pos (8 * g) *ℤ τ → nat_abs ε < g → (r < g) ⊎ (7 * g ≤ r)
near_none g r ε (pos zero) l e h = inl (omega (arith, ints))
near_none g r ε (pos (suc zero)) l e h = inr (omega (arith, ints))
near_none g r ε (pos (suc (suc t))) l e h = absurd (omega (arith, ints))
near_none g r ε (negsuc t) l e h = absurd (omega (arith, ints))

near_quarter : (g r : ℕ) (ε τ : ℤ) → r < 8 * g → pos r ≡ pos (2 * g) +ℤ ε +ℤ pos (8 * g) *ℤ τ → nat_abs ε < g → (g ≤ r) × (r < 3 * g)
near_quarter g r ε (pos zero) l e h = (omega (arith, ints), omega (arith, ints))
near_quarter g r ε (pos (suc t)) l e h = absurd (omega (arith, ints))
near_quarter g r ε (negsuc t) l e h = absurd (omega (arith, ints))

module _ (n q : ℕ) (s : ℕ → ℕ) (xs : List ℕ) (some : 0 < q / 8) (eighth : q ≡ 8 * (q / 8)) where
  rest : (V m : ℕ) (h : Holds n q V (λ j. pos (s j)) m xs)
      → Cong (8 * (q / 8)) (pos (exponent n s xs % q)) (pos (m * (q / 4)) +ℤ h.noise)
  rest V m h = subst (λ (i : ℕ). Cong i (pos (exponent n s xs % q)) (pos (m * (q / 4)) +ℤ h.noise)) eighth
      (cong_trans q (mod_cong q (exponent n s xs)) (cong_trans q (same q _ _ (exponent_phase n s xs)) h.is))

  below : exponent n s xs % q < 8 * (q / 8)
  below = subst (λ (i : ℕ). exponent n s xs % q < i) eighth (mod-lt (exponent n s xs) (omega arith))

  pub opens_zero : (V : ℕ) → V < q / 8 → Holds n q V (λ j. pos (s j)) 0 xs
      → (exponent n s xs % q < q / 8) ⊎ (7 * (q / 8) ≤ exponent n s xs % q)
  opens_zero V l h =
      let c : Cong (8 * (q / 8)) (pos (exponent n s xs % q)) (pos (0 * (q / 4)) +ℤ h.noise) = rest V 0 h in
      near_none (q / 8) (exponent n s xs % q) h.noise c.times below
      (c.is ∙ drop (0 * (q / 4)) h.noise (pos (8 * (q / 8)) *ℤ c.times) (omega arith)) (omega (arith, h.small))
    where
      drop : (z : ℕ) (x y : ℤ) → z ≡ 0 → pos z +ℤ x +ℤ y ≡ x +ℤ y
      drop z x y e = omega (arith, ints)

  pub opens_one : (V : ℕ) → V < q / 8 → Holds n q V (λ j. pos (s j)) 1 xs
      → (q / 8 ≤ exponent n s xs % q) × (exponent n s xs % q < 3 * (q / 8))
  opens_one V l h =
      let c : Cong (8 * (q / 8)) (pos (exponent n s xs % q)) (pos (1 * (q / 4)) +ℤ h.noise) = rest V 1 h in
      near_quarter (q / 8) (exponent n s xs % q) h.noise c.times below
      (c.is ∙ ap (λ (i : ℕ). pos i +ℤ h.noise +ℤ pos (8 * (q / 8)) *ℤ c.times) {x = 1 * (q / 4)} {y = 2 * (q / 8)} (omega arith))
      (omega (arith, h.small))

  -- so words hold one bit only
  pub holds_one : (V W a b : ℕ) → V < q / 8 → W < q / 8 → a ≤ 1 → b ≤ 1
      → Holds n q V (λ j. pos (s j)) a xs → Holds n q W (λ j. pos (s j)) b xs → a ≡ b
  holds_one V W zero zero hv hw ha hb x y = refl
  holds_one V W zero (suc zero) hv hw ha hb x y =
      let o : (q / 8 ≤ exponent n s xs % q) × (exponent n s xs % q < 3 * (q / 8)) = opens_one W hw y in
      absurd (elim (opens_zero V hv x) [ inl k ↦ omega arith | inr k ↦ omega arith ])
  holds_one V W (suc zero) zero hv hw ha hb x y =
      let o : (q / 8 ≤ exponent n s xs % q) × (exponent n s xs % q < 3 * (q / 8)) = opens_one V hv x in
      absurd (elim (opens_zero W hw y) [ inl k ↦ omega arith | inr k ↦ omega arith ])
  holds_one V W (suc zero) (suc zero) hv hw ha hb x y = refl
  holds_one V W (suc (suc a)) b hv hw ha hb x y = absurd (omega arith)
  holds_one V W zero (suc (suc b)) hv hw ha hb x y = absurd (omega arith)
  holds_one V W (suc zero) (suc (suc b)) hv hw ha hb x y = absurd (omega arith)
