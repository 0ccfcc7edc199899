-- The laws of reading: each list of words reads as one polynomial, each polynomial has one form.
use Rattle.std.specs.Prelude.{◌≡◌, ℕ, ◌*◌, ◌%◌, ◌^◌, ◌<◌, ◌≤◌, List, length, ℤ, pos, ◌*ℤ◌, slice_index}
use Rattle.std.proofs.Math.Path.{sym, ap, subst}
use Rattle.std.proofs.Common.{◌∙◌}
use Rattle.std.proofs.Math.Nat.{mod-lt}
use native.Mathlib.Omega.{arith}
use Rattle.std.proofs.lemmas.Int.{ints}
use Rattle.std.proofs.Math.IntN.{*ℤ_comm}
use Rattle.std.proofs.lemmas.List.FromFn.{length-map-range_with_len, get_or-map-range_with_len, fill_by_all}
use Rattle.std.proofs.lemmas.List.{ext_get_or}
use Rattle.algebra.specs.Ints.{Cong}
use Rattle.algebra.proofs.Cong.{same, cong_refl, cong_sym, cong_trans, cong_mul, cong_scale}
use Rattle.algebra.proofs.Ring.{*ℤ-assoc}
use Rattle.algebra.proofs.Bridge.{mod_cong, word_unique}
use Rattle.rings.specs.declared.ring.Ring.{Ring}
use Rattle.kernels.specs.Polynomials.{Below, InRing, poly_of}
use Rattle.kernels.specs.Reading.{OneForm}
use Rattle.kernels.specs.Reduced.{reduced_poly, reduced_same, reduced_twice}
use Rattle.transform.specs.Order.{order}
use Rattle.transform.specs.Pointwise.{scaled}
use Rattle.transform.specs.Reads.{reads}
use Rattle.transform.specs.Stages.{runs, unruns}
use Rattle.transform.specs.Values.{sum, values}
use Rattle.transform.specs.Meaning.{runs_values, runs_long, runs_below}
use Rattle.transform.specs.Return.{twos, twos_is, back_runs, runs_back, unruns_long}
use Rattle.kernels.specs.PlainKernelLemmas.{some}
use Rattle.transform.specs.Undo.{Times}

-- words below Q, one of them c times the other, where c is 1
settle : (Q : ℕ) (c : ℤ) (x y : List ℕ) → length x ≡ length y → Below Q x → Below Q y → Cong Q c (pos 1)
    → Times Q c (length x) x y → x ≡ y
settle Q c x y e bx by one times =
    ext_get_or 0 x y e
    (λ k h. word_unique Q (slice_index x k) (slice_index y k) (bx k h) (by k (omega arith))
    (cong_trans Q (times k h) (cong_trans Q (cong_mul Q one (cong_refl Q (pos (slice_index y k)))) (same Q _ _ (unit (pos (slice_index y k)))))))
  where
    unit : (z : ℤ) → pos 1 *ℤ z ≡ z
    unit z = omega (arith, ints)

module _ (r : Ring) where
  abbrev Q : ℕ
  Q = r.modulus

  -- ---- the factor 1 / N
  pub scaled_from : (y x : List ℕ) → length x ≡ length y
      → ((k : ℕ) → k < length y → slice_index x k ≡ slice_index y k * r.inverse % r.modulus) → x ≡ scaled r y
  unfolding scaled
  scaled_from y x e f = fill_by_all (λ k. slice_index y k * r.inverse % r.modulus) x (length y) 0 e f

  scaled_long : (y : List ℕ) → length (scaled r y) ≡ length y
  unfolding scaled
  scaled_long y = length-map-range_with_len (λ k. slice_index y k * r.inverse % r.modulus) 0 (length y)

  scaled_at : (y : List ℕ) (k : ℕ) → k < length y → slice_index (scaled r y) k ≡ slice_index y k * r.inverse % r.modulus
  unfolding scaled
  scaled_at y k h = get_or-map-range_with_len (λ i. slice_index y i * r.inverse % r.modulus) 0 (length y) k k 0 h (omega arith)

  scaled_below : (y : List ℕ) → Below r.modulus (scaled r y)
  scaled_below y k h =
      let l : k < length y = omega (arith, scaled_long y) in
      omega (arith, scaled_at y k l, mod-lt (slice_index y k * r.inverse) (some r))

  scaled_times : (y : List ℕ) → Times r.modulus (pos r.inverse) (length y) (scaled r y) y
  scaled_times y k h =
      cong_trans Q (same Q _ _ (ap pos (scaled_at y k h)))
      (cong_trans Q (mod_cong Q (slice_index y k * r.inverse)) (same Q _ _ (*ℤ_comm (pos (slice_index y k)) (pos r.inverse))))

  inverse_one : Cong r.modulus (pos r.inverse *ℤ twos r.log) (pos 1)
  inverse_one =
      let e : r.inverse * 2 ^ r.log % Q ≡ 1 = ap (λ i. r.inverse * i % Q) (sym r.size.0) ∙ r.scale.1 in
      cong_trans Q (same Q _ _ (ap (λ (z : ℤ). pos r.inverse *ℤ z) (twos_is r.log)))
      (cong_trans Q (cong_sym Q (mod_cong Q (r.inverse * 2 ^ r.log))) (same Q _ _ (ap pos e)))

  -- ---- forms
  abbrev word : List ℕ → ℕ → ℕ
  word p k = sum r.degree (λ i. slice_index p i * r.root ^ (i * order r.log k)) % r.modulus

  pub values_at : (p : List ℕ) (k : ℕ) → k < r.degree
      → slice_index (values r p) k ≡ sum r.degree (λ i. slice_index p i * r.root ^ (i * order r.log k)) % r.modulus
  unfolding values
  values_at p k h = get_or-map-range_with_len (word p) 0 r.degree k k 0 h (omega arith)

  pub values_poly : (p : List ℕ) → InRing r (values r p)
  unfolding values
  values_poly p =
      let e : length (values r p) ≡ r.degree = length-map-range_with_len (word p) 0 r.degree in (
        e,
        λ k h. let l : k < r.degree = omega arith in
            omega (arith, values_at p k l, mod-lt (sum r.degree (λ i. slice_index p i * r.root ^ (i * order r.log k))) (some r)),
      )

  -- ---- the laws
  pub reads_poly : (w : List ℕ) → InRing r (reads r w)
  reads_poly w =
      let u : List ℕ = unruns r r.log (poly_of r w) in
      let e : length u ≡ r.degree = unruns_long r r.log (poly_of r w) (omega arith) (reduced_poly r.degree Q w (some r)).0 in
      (scaled_long u ∙ e, scaled_below u)

  pub reads_values : (p : List ℕ) → InRing r p → reads r (values r p) ≡ p
  unfolding runs
  reads_values p h =
      let ll : r.log ≤ r.log = omega arith in
      let y : List ℕ = runs r r.log p in
      let yl : length y ≡ r.degree = runs_long r r.log p ll h.0 in
      let yb : Below Q y = runs_below r r.log p h.1 in
      let ye : poly_of r (values r p) ≡ y =
      ap (λ (i : List ℕ). poly_of r i) (sym (runs_values r p h)) ∙ sym (reduced_same r.degree Q y (yl, yb)) in
      let u : List ℕ = unruns r r.log y in
      let ul : length u ≡ r.degree = unruns_long r r.log y ll yl in
      let all : Times Q (twos r.log) r.degree u p = back_runs r p h r.log 0 (omega arith) in
      let x : List ℕ = scaled r u in
      let xl : length x ≡ length u = scaled_long u in
      let times : Times Q (pos r.inverse *ℤ twos r.log) (length x) x p =
      λ k b. cong_trans Q (scaled_times u k (omega arith))
      (cong_trans Q (cong_scale Q (pos r.inverse) (all k (omega arith)))
      (same Q _ _ (sym (*ℤ-assoc (pos r.inverse) (twos r.log) (pos (slice_index p k)))))) in
      ap (λ (i : List ℕ). scaled r (unruns r r.log i)) ye
      ∙ settle Q (pos r.inverse *ℤ twos r.log) x p (xl ∙ (ul ∙ sym h.0)) (scaled_below u) h.1 inverse_one times

  pub values_reads : (w : List ℕ) → InRing r w → values r (reads r w) ≡ w
  unfolding unruns
  values_reads w h =
      let ll : r.log ≤ r.log = omega arith in
      let p : List ℕ = reads r w in
      let hp : InRing r p = reads_poly w in
      let u : List ℕ = unruns r r.log w in
      let ul : length u ≡ r.degree = unruns_long r r.log w ll h.0 in
      let pe : p ≡ scaled r u = ap (λ (i : List ℕ). scaled r (unruns r r.log i)) (sym (reduced_same r.degree Q w h)) in
      let pt : Times Q (pos r.inverse) r.degree p u =
      subst (λ (i : List ℕ). Times Q (pos r.inverse) r.degree i u) (sym pe) (λ k b. scaled_times u k (omega arith)) in
      let all : Times Q (twos r.log *ℤ pos r.inverse) r.degree (runs r r.log p) w =
      runs_back r w p (pos r.inverse) h pt r.log 0 (omega arith) in
      let y : List ℕ = runs r r.log p in
      let yl : length y ≡ r.degree = runs_long r r.log p ll hp.0 in
      let one : Cong Q (twos r.log *ℤ pos r.inverse) (pos 1) =
      cong_trans Q (same Q _ _ (*ℤ_comm (twos r.log) (pos r.inverse))) inverse_one in
      sym (runs_values r p hp)
      ∙ settle Q (twos r.log *ℤ pos r.inverse) y w (yl ∙ sym h.0) (runs_below r r.log p hp.1) h.1 one
      (λ k b. all k (omega arith))

  pub reads_rest : (w : List ℕ) → reads r w ≡ reads r (poly_of r w)
  reads_rest w = ap (λ (i : List ℕ). scaled r (unruns r r.log i)) (reduced_twice r.degree Q w (some r))

pub one_form : OneForm reads values
one_form = record
    { poly = reads_poly; below = λ r p h. values_poly r p; back = reads_values; one = values_reads; rest = reads_rest }
