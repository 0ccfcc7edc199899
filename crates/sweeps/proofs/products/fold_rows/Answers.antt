use Rattle.std.proofs.Common.{◌≡◌, ℕ, ◌+◌, ◌*◌, ◌/◌, ◌<◌, List, [], ◌∷◌, ◌++◌, length, take, drop, sym, ap, ◌∙◌, inl, inr, add-mul, arith, rules}
use Rattle.std.specs.Iterator.Adapters.{zip_second}
use Rattle.std.specs.Slice.Iter.{chunks_exact_rest}
use Rattle.std.proofs.Math.Seq.{take-length}
use Rattle.std.proofs.lemmas.List.{length-append, length-drop}
use Rattle.algebra.specs.Polys.{Poly}
use Rattle.algebra.specs.Keys.{taken}
use Rattle.algebra.specs.Words.{coeffs, words}
use Rattle.sweeps.specs.Forms.{row_of}
use Rattle.sweeps.proofs.Calls.{after_three, modulus_some, reads_folded}
use Rattle.sweeps.proofs.Takes.{taken_none, taken_more}
use Rattle.sweeps.proofs.Walks.{part_is, part_left, part_within, parts_last}
use Rattle.sweeps.proofs.products.fold_rows.Goals as goal

pub loop-row-init : goal.loop-row-init
loop-row-init g c =
    let r = c.args.ring.now in
    let keys = c.args.keys.now in
    let at = c.args.first * r.degree in
    record {
      can_next = search rules;
      is_finite = search rules;
      size = search rules;
      size_key = search rules;
      within = search rules;
      rest = search rules;
      rest_key =
          ap (λ x. chunks_exact_rest (zip_second x)) c.into_iter-row-iterator.ensures.into_iter_gives
          ∙ ap (λ x. chunks_exact_rest x) c.zip-row-items.ensures.second ∙ c.chunks_exact-2.ensures.rest
          ∙ ap (λ (n : ℕ). take n (drop at keys)) (sym (length-drop at keys)) ∙ take-length (drop at keys)
          ∙ ap (λ (n : ℕ). drop (n * r.degree) keys) {x = c.args.first} {y = c.args.first + 0} (omega arith);
      value = c.requires.zero ∙ taken_none r.degree r.modulus (modulus_some r) _ _;
    }

pub loop-row-preserved : goal.loop-row-preserved
loop-row-preserved g c =
    let h = c.in-Some.ensures.steps in
    let v = c.loop-row.invariant in
    let r = c.args.ring.now in
    let reads = g.K.Kernel.reads in
    let rows = c.args.rows.now in
    let keys = c.args.keys.now in
    let i = length c.loop-row.yielded in
    let first = c.args.first in
    let D : ℕ → Poly = (λ i. coeffs (reads r (row_of r.degree rows i))) in
    let p : ℕ → Poly = (λ i. coeffs (reads r (row_of r.degree keys (first + i)))) in
    let a = c.in-Some.row.now in
    let b = c.in-Some.part.now in
    let some : 0 < r.degree = omega (arith, r.range) in
    let long = h.0.1.1 ∙ v.size in
    let long_key = h.1.1.1 ∙ v.size_key in
    let more : i + 1 ≡ length (c.loop-row.yielded ++ ((c.in-Some.row, c.in-Some.part) ∷ [])) =
    sym (length-append c.loop-row.yielded ((c.in-Some.row, c.in-Some.part) ∷ [])) in
    let wrote = after_three r c.fold.result _ _ _ c.fold.new.acc _ _ c.fold.ensures.answer
    (omega (arith, c.requires.sum)) long long_key c.fold.ensures.acc in
    record {
      can_next = search rules;
      is_finite = search rules;
      size = h.0.0 ∙ v.size;
      size_key = h.1.0 ∙ v.size_key;
      within = omega (arith, part_within r.degree i rows _ _ _ some v.rest h.0.1.0 long, ap (λ (x : ℕ). x * r.degree) more);
      rest = part_left r.degree i rows _ _ _ some v.rest h.0.1.0 long ∙ ap (λ (x : ℕ). drop (x * r.degree) rows) more;
      rest_key = part_left r.degree (first + i) keys _ _ _ some v.rest_key h.1.1.0 long_key ∙ ap (λ (x : ℕ). drop (x * r.degree) keys) {x = first + i + 1} {y = first + length (c.loop-row.yielded ++ ((c.in-Some.row, c.in-Some.part) ∷ []))} (omega (arith, more));
      value =
          reads_folded g.met.K.Kernel.forms r c.loop-row.sum a b c.fold.new.acc wrote
          ∙ taken_more r.degree r.modulus (modulus_some r) D p i (reads r c.loop-row.sum) (reads r a) (reads r b) v.value
          (ap (λ (w : List ℕ). coeffs (reads r w)) (sym (part_is r.degree i rows _ _ _ some v.rest h.0.1.0 long)))
          (ap (λ (w : List ℕ). coeffs (reads r w)) (sym (part_is r.degree (first + i) keys _ _ _ some v.rest_key h.1.1.0 long_key)))
          ∙ ap (λ (x : ℕ). words r.degree r.modulus (taken r.degree x D p)) more;
    }

pub returns : goal.returns
returns g c =
    let h = c.in-None.ensures.steps in
    let v = c.loop-row.invariant in
    let r = c.args.ring.now in
    let some : 0 < r.degree = omega (arith, r.range) in
    let reads = g.K.Kernel.reads in
    let rows = c.args.rows.now in
    let keys = c.args.keys.now in
    let first = c.args.first in
    let i = length c.loop-row.yielded in
    let D : ℕ → Poly = (λ i. coeffs (reads r (row_of r.degree rows i))) in
    let p : ℕ → Poly = (λ i. coeffs (reads r (row_of r.degree keys (first + i)))) in
    let last : i ≡ length rows / r.degree =
    parts_last r.degree (length rows) i some v.within (elim h [
      | inl w ↦ omega (arith, w.1.1.0, v.size, ap length v.rest, length-drop (i * r.degree) rows)
      | inr w ↦ omega (arith, w.1.1.0, v.size_key, ap length v.rest_key, length-drop ((first + i) * r.degree) keys, add-mul first i r.degree, c.requires.keys)
    ]) in
    v.value ∙ ap (λ (x : ℕ). words r.degree r.modulus (taken r.degree x D p)) last
