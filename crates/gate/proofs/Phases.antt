-- The phase after each stage.
use Rattle.std.proofs.Common.{ℕ, suc, ◌+◌, ◌*◌, ◌/◌, ◌<◌, ◌≤◌, List, get_or, ℤ, pos, ◌+ℤ◌, sym, subst, arith}
use Rattle.algebra.specs.Ints.{Cong}
use Rattle.algebra.specs.Polys.{Poly, power, mul, weight}
use Rattle.algebra.specs.Near.{Near, Nearby}
use Rattle.algebra.specs.Words.{coeffs, words}
use Rattle.algebra.specs.Keys.{Splits, split}
use Rattle.algebra.specs.Gates.{test, beginning, phase, extract, extracted}
use Rattle.algebra.proofs.Cong.{same, cong_refl, cong_trans}
use Rattle.algebra.proofs.Keys.{split_words, start_near}
use Rattle.algebra.proofs.Sweeps.{splits_alike}
use Rattle.algebra.proofs.Norms.{mul_alike, weight_counts}
use Rattle.algebra.proofs.Near.{cong_near, near_to}
use Rattle.algebra.proofs.Letters.{combine_phase}
use Rattle.algebra.proofs.Phases.{phase_alike, phase_extracted}
use Rattle.algebra.proofs.Rounding.{narrow_rounds}
use Rattle.algebra.proofs.Switch.{switch_phase}
use Rattle.algebra.proofs.Words.{words_alike}
use Rattle.kernels.specs.Polynomials.{reduced}
use Rattle.kernels.specs.Reduced.{reduced_poly, reduced_alike}
use Rattle.set.specs.declared.within.Within.{Within}
use Rattle.set.specs.declared.checked.Set.{Set}
use Rattle.set.specs.Noise.{drop_of, switch_noise}
use Rattle.sweeps.specs.External.{taken_by, taken_words}
use Rattle.sweeps.specs.Fit.{entries, key_at, SmallSecret, FitsStart}
use Rattle.sweeps.specs.Meaning.{turns}
use Rattle.gate.specs.Letters.{offset_of, times_of}
use Rattle.gate.specs.Stages.{row_at, switch_words, started_of, extracted_of, switched_of}
use Rattle.gate.specs.Gates.{FitsRows}
use Rattle.gate.specs.Laws.{PhaseLaws}
use Rattle.gate.proofs.Sets.{ring_covers, switch_covers}
use Rattle.gate.proofs.Holding.{ring_light, small_one, begins, begin_below, taken_alike}

started_phase : (set : Set) (f : List ℤ) (start : List (List ℕ)) (zs : List ℕ) → FitsStart set.within.numbers f start
    → Nearby set.within.numbers.modulus set.within.numbers.degree
    (set.within.numbers.degree * set.within.numbers.digits * (set.within.numbers.base / 2) * set.within.numbers.noise + drop_of set.within.numbers)
    (mul set.within.numbers.degree (entries f) (coeffs (started_of set.within.numbers start zs)))
    (power set.within.numbers.degree (turns set.within.numbers (get_or zs set.within.numbers.dimension 0))
    (test set.within.numbers.degree (pos (set.within.numbers.modulus / 8))))
started_phase set f start zs key k l =
    let n = set.within.numbers in
    let N : ℕ = set.within.numbers.degree in
    let Q : ℕ = set.within.numbers.modulus in
    let some : 0 < set.within.numbers.modulus = omega (arith, set.within.moduli.2) in
    let e : ℕ = turns n (get_or zs n.dimension 0) in
    let cs : List ℕ = beginning N Q e in
    let c : Poly = power N e (test N (pos (Q / 8))) in
    let D : ℕ → Poly = split Q n.dropped n.base n.digits cs in
    let cut : Splits Q N n.dropped n.base n.digits (n.base / 2) (n.dropped / 2) c D =
    splits_alike Q N n.dropped n.base n.digits (n.base / 2) (n.dropped / 2) (coeffs cs) c D (begins N Q e some)
    (split_words Q N n.dropped n.base n.digits cs (ring_covers set) (begin_below N Q e some)) in
    cong_near Q
    (mul_alike Q N (entries f) (entries f) (coeffs (taken_words n start cs)) (taken_by n start 0 cs) (λ i b. cong_refl Q (entries f i)) (taken_alike set.within start cs) k l)
    (start_near Q N n.dropped n.base n.digits n.noise (n.base / 2) (n.dropped / 2) (entries f) c D (key_at n.digits start 0) cut key k l)

extracted_phase : (w : Within) (f : List ℤ) (acc : List ℕ)
    → Cong w.numbers.modulus (phase w.numbers.degree (entries f) (coeffs (extracted_of w.numbers acc)))
    (pos (w.numbers.modulus / 8) +ℤ mul w.numbers.degree (entries f) (coeffs acc) 0)
unfolding extract
extracted_phase w f acc =
    let N : ℕ = w.numbers.degree in
    let Q : ℕ = w.numbers.modulus in
    let some : 0 < w.numbers.modulus = omega (arith, w.moduli.2) in
    let zs : Poly = extracted N (pos (Q / 8)) (coeffs acc) in
    cong_trans Q (phase_alike N (entries f) Q (coeffs (words (suc N) Q zs)) zs (words_alike (suc N) Q zs some))
    (same Q _ _ (phase_extracted N (entries f) (pos (Q / 8)) (coeffs acc)))

switched_phase : (set : Set) (f s : List ℤ) (rows xs : List ℕ) → FitsRows set.within.numbers f s rows
    → Near set.within.numbers.switch (switch_noise set.within.numbers)
    (phase set.within.numbers.dimension (entries s) (coeffs (switched_of set.within.numbers rows xs)))
    (phase set.within.numbers.degree (entries f) (coeffs xs))
unfolding switch_words
switched_phase set f s rows xs fit =
    let n = set.within.numbers in
    let N : ℕ = set.within.numbers.degree in
    let M : ℕ = set.within.numbers.switch in
    let some : 0 < set.within.numbers.switch = (let h = set.within.switching.0 in omega arith) in
    let p = reduced_poly (suc N) M xs some in
    near_to M
    (switch_phase M N n.dimension n.radix n.places n.jitter (entries f) (entries s) (row_at n.places (n.dimension + 1) rows) (reduced (suc N) M xs)
    some (switch_covers set) fit (λ j l. p.1 j (omega (arith, p.0))))
    (phase_alike N (entries f) M (coeffs (reduced (suc N) M xs)) (coeffs xs) (reduced_alike (suc N) M xs some))

small_weight : (w : Within) (s : List ℤ) → SmallSecret w.numbers s → weight w.numbers.dimension (entries s) ≤ w.numbers.ones
small_weight w s small =
    subst (λ (x : ℕ). x ≤ w.numbers.ones) (sym (weight_counts w.numbers.dimension (entries s) (small_one w.numbers s small))) small.light

pub phase_laws : PhaseLaws
phase_laws = record {
  combined = λ w l s xs ys. combine_phase w.numbers.dimension w.numbers.small (offset_of l) (times_of l) (entries s) xs ys (let h = w.moduli.0 in omega arith);
  started = started_phase;
  extracted = extracted_phase;
  narrowed = λ w f xs x ring is. narrow_rounds w.numbers.degree w.numbers.modulus w.numbers.switch w.numbers.weight xs (entries f) x
      (omega (arith, w.moduli.2)) (ring_light w.numbers f ring) is;
  switched = switched_phase;
  finished = λ w s xs x small is. narrow_rounds w.numbers.dimension w.numbers.switch w.numbers.small w.numbers.ones xs (entries s) x
      (let h = w.switching.0 in omega arith) (small_weight w s small) is;
}
