-- From the swept accumulator to the gate's answer: the closing inequality keeps the noise at most β.
use Rattle.std.proofs.Common.{◌≡◌, ℕ, zero, suc, ◌+◌, ◌*◌, ◌/◌, ◌%◌, ◌<◌, ◌≤◌, List, [], ◌∷◌, ℤ, pos, ◌+ℤ◌, ◌-ℤ◌, ◌*ℤ◌, nat_abs, sym, refl, ap, ◌∙◌, subst, mul_comm, mul-le-mul, mul-le-mul_left, arith}
use native.Mathlib.Decide.{dec_lt}
use borrow.Author.Differences.{ints}
use Rattle.algebra.proofs.Solve.{ring, forms}
use Rattle.algebra.proofs.Norms.{abs_mul, abs_scale}
use Rattle.algebra.proofs.Cong.{same, cong_refl, cong_trans, cong_add}
use Rattle.algebra.proofs.Words.{words_alike}
use Rattle.algebra.proofs.Test.{test_side, inside_bit}
use Rattle.algebra.proofs.Phases.{phase_alike, phase_extracted}
use Rattle.algebra.proofs.Rounding.{narrow_rounds, narrow_below}
use Rattle.algebra.proofs.Switch.{switch_phase}
use Rattle.algebra.specs.Ints.{Cong}
use Rattle.algebra.specs.Polys.{power, mul, weight}
use Rattle.algebra.specs.Near.{Near}
use Rattle.algebra.specs.Words.{coeffs}
use Rattle.algebra.specs.Digits.{Covers}
use Rattle.algebra.specs.Gates.{test, side, phase, Holds, extracted, extract, Rounds, narrow, SwitchKey, switch, refresh, Closes}

-- a factor taken off an order
pub cancel_le : (d a b : ℕ) → 0 < d → d * a ≤ d * b → a ≤ b
cancel_le d a b h l = elim (dec_lt b a) [ yes k ↦ absurd (over k) | no n ↦ omega (arith, n) ]
  where
    over : b < a → ⊥
    over k = omega (arith, mul-le-mul_left d k)

abs_add₄ : (a b c d : ℤ) → nat_abs (a +ℤ b +ℤ c +ℤ d) ≤ nat_abs a + nat_abs b + nat_abs c + nat_abs d
abs_add₄ a b c d = omega (arith, ints)

-- the noise times 2 Q M is made of the noises of the stages
parts : (Q M r m x y n w : ℤ) → pos 2 *ℤ (Q *ℤ M) *ℤ (w -ℤ r *ℤ m)
    ≡ Q *ℤ (pos 2 *ℤ M *ℤ w -ℤ pos 8 *ℤ r *ℤ (y +ℤ n)) +ℤ pos 4 *ℤ r *ℤ (pos 2 *ℤ Q *ℤ y -ℤ pos 2 *ℤ M *ℤ x)
    +ℤ pos 8 *ℤ (Q *ℤ r) *ℤ n +ℤ pos 2 *ℤ (r *ℤ M) *ℤ (pos 4 *ℤ x -ℤ Q *ℤ m)
parts Q M r m x y n w =
    ring (Q ∷ M ∷ r ∷ m ∷ x ∷ y ∷ n ∷ w ∷ []) (search forms depth 12) (search forms depth 12) refl

-- from x near m Q/4 to w near m q/4, where q is 4 r: rounded to M, moved by n, rounded to q
closing : (Q M r V F W h β : ℕ) (m x y n w : ℤ) → 0 < Q → 0 < M
    → nat_abs (pos 4 *ℤ x -ℤ pos Q *ℤ m) ≤ 4 * (V + 2)
    → nat_abs (pos 2 *ℤ pos Q *ℤ y -ℤ pos 2 *ℤ pos M *ℤ x) ≤ Q * (1 + F)
    → nat_abs n ≤ W
    → nat_abs (pos 2 *ℤ pos M *ℤ w -ℤ pos 8 *ℤ pos r *ℤ (y +ℤ n)) ≤ M * (1 + h)
    → 2 * (4 * r) * M * (V + 2) + 4 * r * Q * (1 + F + 2 * W) + Q * M * (1 + h) ≤ 2 * Q * M * β
    → nat_abs (w -ℤ pos r *ℤ m) ≤ β
closing Q M r V F W h β m x y n w q0 m0 hx hy hn hw close =
    cancel_le (2 * (Q * M)) (nat_abs (w -ℤ pos r *ℤ m)) β (omega (arith, mul-le-mul q0 m0)) (
    let A : ℤ = pos 2 *ℤ pos M *ℤ w -ℤ pos 8 *ℤ pos r *ℤ (y +ℤ n) in
    let B : ℤ = pos 2 *ℤ pos Q *ℤ y -ℤ pos 2 *ℤ pos M *ℤ x in
    let C : ℤ = pos 4 *ℤ x -ℤ pos Q *ℤ m in
    let e = sym (abs_mul (pos (2 * (Q * M))) (w -ℤ pos r *ℤ m)) ∙ ap nat_abs (parts (pos Q) (pos M) (pos r) m x y n w) in
    let s1 = abs_scale Q (M * (1 + h)) A hw in
    let s2 = abs_scale (4 * r) (Q * (1 + F)) B hy in
    let s3 = abs_scale (8 * (Q * r)) W n hn in
    let s4 = abs_scale (2 * (r * M)) (4 * (V + 2)) C hx in
    omega (arith, e, abs_add₄ (pos Q *ℤ A) (pos (4 * r) *ℤ B) (pos (8 * (Q * r)) *ℤ n) (pos (2 * (r * M)) *ℤ C)))

-- the same over phases: round to M, switch, round to q
pub refreshed : (Q M q V F W h β m : ℕ) (x n φ₁ φ₃ : ℤ) → 0 < Q → 0 < M → q ≡ 4 * (q / 4)
    → nat_abs (pos 4 *ℤ x -ℤ pos Q *ℤ pos m) ≤ 4 * (V + 2)
    → (u : Rounds Q M F x φ₁) → nat_abs n ≤ W → Rounds M q h (u.near +ℤ n) φ₃
    → Closes Q M q V F W h β
    → Near q β φ₃ (pos (m * (q / 4)))
refreshed Q M q V F W h β m x n φ₁ φ₃ q0 m0 quarter hx u hn v close = record {
  noise = v.near -ℤ pos (q / 4) *ℤ pos m;
  is = cong_trans q v.is (same q _ _ (there v.near));
  small = closing Q M (q / 4) V F W h β (pos m) x u.near n v.near q0 m0 hx u.small hn
      (subst (λ (a : ℤ). nat_abs (pos (2 * M) *ℤ v.near -ℤ a *ℤ (u.near +ℤ n)) ≤ M * (1 + h)) eight v.small)
      (in-quarters (q / 4) quarter);
}
  where
    eight : pos (2 * q) ≡ pos (8 * (q / 4))
    eight = ap pos (omega arith)

    in-quarters : (r : ℕ) → q ≡ 4 * r → 2 * (4 * r) * M * (V + 2) + 4 * r * Q * (1 + F + 2 * W) + Q * M * (1 + h) ≤ 2 * Q * M * β
    in-quarters r e = subst (λ (a : ℕ). 2 * a * M * (V + 2) + a * Q * (1 + F + 2 * W) + Q * M * (1 + h) ≤ 2 * Q * M * β) e close

    product : pos (m * (q / 4)) ≡ pos (q / 4) *ℤ pos m
    product = ap pos (mul_comm m (q / 4))

    there : (w : ℤ) → w ≡ pos (m * (q / 4)) +ℤ (w -ℤ pos (q / 4) *ℤ pos m)
    there w = back w (pos (m * (q / 4))) (pos (q / 4) *ℤ pos m) product
      where
        back : (w a b : ℤ) → a ≡ b → w ≡ a +ℤ (w -ℤ b)
        back w a b e = omega (arith, ints)

-- 2 δ or 0, and a noise of at most V, is within V + 2 of a quarter of Q or 0
pub ring_phase : (Q V m : ℕ) (ν : ℤ) → m ≤ 1 → nat_abs ν ≤ V
    → nat_abs (pos 4 *ℤ (pos m *ℤ (pos 2 *ℤ pos (Q / 8)) +ℤ ν) -ℤ pos Q *ℤ pos m) ≤ 4 * (V + 2)
ring_phase Q V zero ν l h = omega (arith, ints)
ring_phase Q V (suc zero) ν l h = omega (arith, ints)
ring_phase Q V (suc (suc m)) ν l h = absurd (omega arith)

-- where f times the accumulator is near X^σ times the test polynomial, the answer holds the bit of σ's side
module _ (N n Q M q C k Z F h V β : ℕ) (f s : ℕ → ℤ) (row : ℕ → ℕ → ℕ → ℤ)
    (length_some : 0 < N) (length-even : N ≡ 2 * (N / 2)) (Q-some : 0 < Q) (M-some : 0 < M) (quarter : q ≡ 4 * (q / 4))
    (ring_light : weight N f ≤ F) (small_light : weight n s ≤ h)
    (ok : Covers M 1 C k) (key : SwitchKey M N n C k Z f s row)
    (close : Closes Q M q V F (N * k * (C / 2) * Z) h β) where
  pub refresh_holds : (σ : ℕ) (acc : List ℕ)
      → Near Q V (mul N f (coeffs acc) 0) (power N σ (test N (pos (Q / 8))) 0)
      → Holds n q β s (side N σ) (refresh N n Q M q C k row acc)
  unfolding extract
  refresh_holds σ acc near =
      let W : ℕ = N * k * (C / 2) * Z in
      let δ : ℤ = pos (Q / 8) in
      let x : ℤ = pos (side N σ) *ℤ (pos 2 *ℤ pos (Q / 8)) +ℤ near.noise in
      let zs : ℕ → ℤ = extracted N (pos (Q / 8)) (coeffs acc) in
      let xs : List ℕ = extract N Q acc in
      let ys : List ℕ = narrow (suc N) Q M xs in
      let ws : List ℕ = switch N n M C k row ys in
      let first : Cong Q (phase N f (coeffs xs)) x =
      cong_trans Q (phase_alike N f Q (coeffs xs) zs (words_alike (suc N) Q zs Q-some))
      (cong_trans Q (same Q _ _ (phase_extracted N f δ (coeffs acc)))
      (cong_trans Q (cong_add Q (cong_refl Q δ) near.is)
      (same Q _ _ (group δ (power N σ (test N δ) 0) near.noise
      ∙ ap (λ (z : ℤ). z +ℤ near.noise) (test_side N δ length_some length-even σ))))) in
      let u : Rounds Q M F x (phase N f (coeffs ys)) = narrow_rounds N Q M F xs f x Q-some ring_light first in
      let η : Near M W (phase n s (coeffs ws)) (phase N f (coeffs ys)) =
      switch_phase M N n C k Z f s row ys M-some ok key (λ j l. narrow_below (suc N) Q M xs M-some j (omega arith)) in
      let second : Cong M (phase n s (coeffs ws)) (u.near +ℤ η.noise) =
      cong_trans M η.is (cong_add M u.is (cong_refl M η.noise)) in
      refreshed Q M q V F W h β (side N σ) x η.noise (phase N f (coeffs ys)) (phase n s (coeffs (narrow (suc n) M q ws)))
      Q-some M-some quarter
      (ring_phase Q V (side N σ) near.noise (inside_bit (N / 2) (N + N / 2) (σ % (N + N))) near.small)
      u η.small (narrow_rounds n M q h ws s (u.near +ℤ η.noise) M-some small_light second) close
    where
      group : (a b c : ℤ) → a +ℤ (b +ℤ c) ≡ a +ℤ b +ℤ c
      group a b c = omega (arith, ints)
