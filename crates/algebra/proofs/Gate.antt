-- A whole gate: combine, start, sweep, refresh.
use Rattle.std.proofs.Common.{◌≡◌, ℕ, zero, suc, ◌+◌, ◌-◌, ◌*◌, ◌/◌, ◌<◌, ◌≤◌, List, get_or, ℤ, pos, sym, ap, ◌∙◌, subst, mul-zero, zero-mul, arith}
use Rattle.algebra.proofs.Cong.{same}
use Rattle.algebra.proofs.Powers.{power_add}
use Rattle.algebra.proofs.Words.{words_below, words_alike}
use Rattle.algebra.proofs.Near.{near_to}
use Rattle.algebra.proofs.Keys.{split_words}
use Rattle.algebra.proofs.Sweeps.{swept, splits_alike}
use Rattle.algebra.proofs.Refresh.{refresh_holds}
use Rattle.algebra.proofs.Letters.{combine_side}
use Rattle.algebra.specs.Polys.{Poly, Alike, power, mul}
use Rattle.algebra.specs.Near.{Near, Nearby}
use Rattle.algebra.specs.Words.{coeffs, words}
use Rattle.algebra.specs.Keys.{split, taken}
use Rattle.algebra.specs.Sweeps.{Carries, external, total, Sweeps}
use Rattle.algebra.specs.Gates.{test, beginning, Holds, combine, Letter, outcome, exponent, refresh, gate, ring_noise, Fits}

-- the exponents of the sweep and of the start make u times the phase
pub total_scale : (n u : ℕ) (a s : ℕ → ℕ) → total n (λ t. u * a t * s t) ≡ u * total n (λ t. a t * s t)
unfolding total
total_scale zero u a s = sym (mul-zero u)
total_scale (suc n) u a s = omega (arith, total_scale n u a s)

exponent_scale : (n u : ℕ) (s : ℕ → ℕ) (xs : List ℕ)
    → total n (λ t. u * get_or xs t 0 * s t) + u * get_or xs n 0 ≡ u * exponent n s xs
exponent_scale n u s xs = omega (arith, total_scale n u (λ t. get_or xs t 0) s)

module _ (N n q Q P B d E F h M C k Z β S : ℕ) (f : Poly) (s : ℕ → ℕ) (start : ℕ → Poly) (row : ℕ → ℕ → ℕ → ℤ)
    (fits : Fits N n q Q P B d E F h M C k Z β S f s start row) where
  -- the accumulator after start and sweep, for words zs
  pub swept_test : (zs cs : List ℕ) (first : Poly) (acc : List ℕ)
      → ((i : ℕ) → i < N → get_or cs i 0 < Q)
      → Alike Q N (coeffs cs) (power N ((N + N) / q * get_or zs n 0) (test N (pos (Q / 8))))
      → Alike Q N first (taken N d (split Q P B d cs) start)
      → Carries Q N f (total n (λ t. (N + N) / q * get_or zs t 0 * s t)) S first (coeffs acc)
      → Nearby Q N (ring_noise N d B E (P / 2) S) (mul N f (coeffs acc))
      (power N ((N + N) / q * exponent n s zs) (test N (pos (Q / 8))))
  swept_test zs cs first acc below begins made moved i l =
      let u : ℕ = (N + N) / q in
      let σ : ℕ = total n (λ t. (N + N) / q * get_or zs t 0 * s t) in
      let c : Poly = power N ((N + N) / q * get_or zs n 0) (test N (pos (Q / 8))) in
      near_to Q
      (swept Q N P B d E (P / 2) F f fits.covers.0.even.1 fits.light.0 σ S c first (coeffs acc) (split Q P B d cs) start
      (splits_alike Q N P B d (B / 2) (P / 2) (coeffs cs) c (split Q P B d cs) begins
      (split_words Q N P B d cs fits.covers.0 below))
      fits.starts made moved i l)
      (same Q _ _ (sym (power_add N σ (u * get_or zs n 0) (test N (pos (Q / 8))) i l)
      ∙ ap (λ (e : ℕ). power N e (test N (pos (Q / 8))) i) (exponent_scale n u s zs)))

  -- words that hold bits with noise below q/16 give words that hold the gate's answer with noise at most β
  pub answer_holds : (o t a b : ℕ) (xs ys cs : List ℕ) (first : Poly) (acc : List ℕ)
      → Letter o t → a ≤ 1 → b ≤ 1
      → Holds n q (q / 16 - 1) (λ j. pos (s j)) a xs → Holds n q (q / 16 - 1) (λ j. pos (s j)) b ys
      → ((i : ℕ) → i < N → get_or cs i 0 < Q)
      → Alike Q N (coeffs cs) (power N ((N + N) / q * get_or (combine n q o t xs ys) n 0) (test N (pos (Q / 8))))
      → Alike Q N first (taken N d (split Q P B d cs) start)
      → Carries Q N f (total n (λ j. (N + N) / q * get_or (combine n q o t xs ys) j 0 * s j)) S first (coeffs acc)
      → Holds n q β (λ j. pos (s j)) (outcome o t a b) (refresh N n Q M q C k row acc)
  answer_holds o t a b xs ys cs first acc letter ha hb hx hy below begins made moved =
      let u : ℕ = (N + N) / q in
      let zs : List ℕ = combine n q o t xs ys in
      let turns : N + N ≡ (N + N) / q * q = fits.circle in
      let quarter : q ≡ 4 * (q / 4) = omega (arith, fits.sixteenth.1) in
      let even : N ≡ 2 * (N / 2) =
      halves N ((N + N) / q) (q / 16) (turns ∙ ap (λ (x : ℕ). (N + N) / q * x) fits.sixteenth.1) in
      let u-some : 0 < (N + N) / q = some ((N + N) / q) turns in
      let at : Near Q (ring_noise N d B E (P / 2) S) (mul N f (coeffs acc) 0)
      (power N (u * exponent n s zs) (test N (pos (Q / 8))) 0) =
      swept_test zs cs first acc below begins made moved 0 fits.length_some in
      subst (λ (m : ℕ). Holds n q β (λ j. pos (s j)) m (refresh N n Q M q C k row acc))
      (combine_side N n q u o t a b s xs ys letter ha hb u-some turns fits.sixteenth.0 fits.sixteenth.1 hx hy)
      (refresh_holds N n Q M q C k Z F h (ring_noise N d B E (P / 2) S) β f (λ j. pos (s j)) row
      fits.length_some even fits.moduli.0 fits.moduli.1 quarter fits.light.0 fits.light.1
      fits.covers.1 fits.switches fits.closes (u * exponent n s zs) acc at)
    where
      halves : (N u g : ℕ) → N + N ≡ u * (16 * g) → N ≡ 2 * (N / 2)
      halves N u g e = let h : N ≡ 2 * (4 * (u * g)) = omega arith in omega arith

      some : (u : ℕ) → N + N ≡ u * q → 0 < u
      some zero e = absurd (omega (arith, fits.length_some, zero-mul q))
      some (suc u) e = omega arith

  pub gate_holds : (sweep : (ℕ → ℕ) → List ℕ → List ℕ) → Sweeps Q N f n s S sweep
      → (o t a b : ℕ) (xs ys : List ℕ) → Letter o t → a ≤ 1 → b ≤ 1
      → Holds n q (q / 16 - 1) (λ j. pos (s j)) a xs → Holds n q (q / 16 - 1) (λ j. pos (s j)) b ys
      → Holds n q β (λ j. pos (s j)) (outcome o t a b) (gate N n q Q P B d M C k start sweep row o t xs ys)
  unfolding gate beginning
  gate_holds sweep sweeps o t a b xs ys letter ha hb hx hy =
      let u : ℕ = (N + N) / q in
      let zs : List ℕ = combine n q o t xs ys in
      let c : Poly = power N (u * get_or zs n 0) (test N (pos (Q / 8))) in
      let cs : List ℕ = words N Q c in
      let T : Poly = external N Q P B d cs start in
      answer_holds o t a b xs ys cs (coeffs (words N Q T)) (sweep (λ j. u * get_or zs j 0) (words N Q T)) letter ha hb hx hy
      (words_below N Q c fits.moduli.0) (words_alike N Q c fits.moduli.0) (words_alike N Q T fits.moduli.0)
      (sweeps (λ j. u * get_or zs j 0) (words N Q T) (words_below N Q T fits.moduli.0))
