use Rattle.std.proofs.Common.{◌≡◌, ℕ, ◌*◌, List, length, ap, ◌∙◌, subst, arith}
use Rattle.rings.specs.declared.ring.Ring.{Ring}
use Rattle.kernels.specs.Polynomials.{Below}
use Rattle.transform.specs.Stages.{staged}
use Rattle.kernels.specs.PlainKernelLemmas.{some}
use Rattle.transform.specs.Steps.{staged_from, staged_below}
use Rattle.transform.proofs.stages.forth.Goals as goal

pub returns : goal.returns
returns c =
    let r = c.args.ring.now in
    let x : List ℕ = c.args.x.now in
    let y : List ℕ = c.stage.new.y in
    let w : List ℕ = c.of-roots.result.factors.now in
    let q : c.of-roots.result.ring.now.modulus ≡ r.modulus = ap (λ (i : Ring). i.modulus) c.of-roots.ensures.ring in
    let long : length y ≡ 2 * length w = omega (arith, c.stage.auto.y, c.requires.to, r.range.2, c.of-roots.ensures.long) in
    let e : y ≡ staged c.of-roots.result.ring.now.modulus w x = staged_from c.of-roots.result.ring.now.modulus w x y long c.stage.ensures in
    record {
      same = e ∙ (ap (λ (i : ℕ). staged i w x) q ∙ ap (λ (i : List ℕ). staged r.modulus i x) c.of-roots.ensures.factors);
      below = subst (λ (i : ℕ). Below i y) q (staged_below c.of-roots.result.ring.now.modulus w x y (omega (arith, q, some r)) c.stage.ensures long);
    }
