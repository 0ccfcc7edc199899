-- What is read is the polynomial with the words as its values.
use Rattle.std.proofs.Common.{◌≡◌, ℕ, ◌+◌, ◌*◌, ◌%◌, ◌^◌, ◌<◌, List, get_or, ℤ, pos, negsuc, sym, ap, ◌∙◌, arith}
use lib.IntN.{pow}
use Rattle.algebra.specs.Ints.{Cong}
use Rattle.algebra.specs.Polys.{Poly, Alike, eval}
use Rattle.algebra.specs.Transform.{interpolated}
use Rattle.algebra.specs.Words.{coeffs}
use Rattle.algebra.proofs.Bridge.{mod_cong}
use Rattle.algebra.proofs.Cong.{same, cong_sym, cong_trans}
use Rattle.algebra.proofs.Eval.{pow_pos}
use Rattle.algebra.proofs.Inverse.{settled, interpolates}
use Rattle.algebra.proofs.Words.{words_from}
use Rattle.rings.specs.declared.ring.Ring.{Ring}
use Rattle.rings.specs.Tables.{mirror}
use Rattle.rings.proofs.Mirrors.{mirror_low}
use Rattle.kernels.specs.Polynomials.{poly_of}
use Rattle.kernels.specs.Reduced.{reduced_poly, reduced_at}
use Rattle.transform.specs.Order.{order}
use Rattle.transform.specs.Reads.{reads, Interpolates}
use Rattle.transform.specs.Values.{values}
use Rattle.transform.proofs.Folding.{values_cong}
use Rattle.transform.proofs.OddPlaces.{mirror_twice}
use Rattle.transform.specs.Reading.{reads_poly, reads_rest, values_reads}
use Rattle.transform.specs.Return.{root_turns}
use Rattle.kernels.specs.PlainKernelLemmas.{some}

module _ (r : Ring) (w : List ℕ) where
  abbrev Q : ℕ
  Q = r.modulus

  abbrev N : ℕ
  N = r.degree

  abbrev ψ : ℤ
  ψ = pos r.root

  abbrev place : ℕ → ℕ
  place i = mirror r.log i

  abbrev target : Poly
  target = interpolated r.modulus r.degree r.log (pos r.root) (λ i. pos (get_or w (mirror r.log i) 0))

  turns : Cong r.modulus (pow (pos r.root) r.degree) (negsuc 0)
  turns = cong_trans Q (same Q _ _ (sym (pow_pos r.root N))) (root_turns r)

  -- the value at ψ^(2 j + 1) of what is read is the word of that place
  read_value : (j : ℕ) → j < r.degree
      → Cong r.modulus (eval r.degree (coeffs (reads r w)) (pow (pos r.root) (2 * j + 1))) (pos (get_or w (mirror r.log j) 0))
  read_value j l =
      let jb : j < 2 ^ r.log = omega (arith, r.size.0) in
      let k : ℕ = place j in
      let kb : mirror r.log j < r.degree = omega (arith, mirror_low r.log j, r.size.0) in
      let odd : order r.log (place j) ≡ 2 * j + 1 = ap (λ i. 2 * i + 1) (mirror_twice r.log j jb) in
      let point : pos (r.root ^ order r.log (place j)) ≡ pow ψ (2 * j + 1) =
      ap (λ (i : ℕ). pos (r.root ^ i)) odd ∙ pow_pos r.root (2 * j + 1) in
      let back : values r (reads r w) ≡ poly_of r w =
      ap (λ (i : List ℕ). values r i) (reads_rest r w) ∙ values_reads r (poly_of r w) (reduced_poly N Q w (some r)) in
      let word : get_or (values r (reads r w)) (place j) 0 ≡ get_or w (place j) 0 % Q =
      ap (λ (i : List ℕ). get_or i (place j) 0) back ∙ reduced_at N Q w (place j) kb in
      cong_trans Q (same Q _ _ (ap (λ (z : ℤ). eval N (coeffs (reads r w)) z) (sym point)))
      (cong_trans Q (cong_sym Q (values_cong r (reads r w) (place j) kb))
      (cong_trans Q (same Q _ _ (ap pos word)) (mod_cong Q (get_or w (place j) 0))))

  alike : Alike r.modulus r.degree (coeffs (reads r w)) target
  alike =
      settled Q N r.log ψ r.size.0 r.limits.0 turns (coeffs (reads r w)) target
      (λ j l. cong_trans Q (read_value j l)
      (cong_sym Q (interpolates Q N r.log ψ r.size.0 r.limits.0 turns (λ i. pos (get_or w (mirror r.log i) 0)) j l)))

pub interpolation : Interpolates
interpolation r w =
    let h = reads_poly r w in
    words_from r.degree r.modulus (target r w) (reads r w) h.0 (λ k l. h.1 k (omega (arith, h.0))) (alike r w)
