use Rattle.std.proofs.Common.{◌≡◌, ℕ, ◌*◌, List, length, sym, ap, ◌∙◌, subst, arith}
use Rattle.rings.specs.declared.ring.Ring.{Ring}
use Rattle.kernels.specs.Polynomials.{Below}
use Rattle.transform.specs.Stages.{unstaged}
use Rattle.kernels.specs.PlainKernelLemmas.{some}
use Rattle.transform.specs.Steps.{unstaged_from, unstaged_below}
use Rattle.transform.proofs.stages.aback.Goals as goal

pub returns : goal.returns
returns c =
    let r = c.args.ring.now in
    let y : List ℕ = c.args.y.now in
    let x : List ℕ = c.unstage.new.x in
    let w : List ℕ = c.of-roots.result.factors.now in
    let q : c.of-roots.result.ring.now.modulus ≡ r.modulus = ap (λ (i : Ring). i.modulus) c.of-roots.ensures.ring in
    let long : length x ≡ 2 * length w = omega (arith, c.unstage.auto.x, c.requires.to, r.range.2, c.of-roots.ensures.long) in
    let e : x ≡ unstaged c.of-roots.result.ring.now.modulus w y = unstaged_from c.of-roots.result.ring.now.modulus w y x long c.unstage.ensures in
    let same : x ≡ unstaged r.modulus w y = e ∙ ap (λ (i : ℕ). unstaged i w y) q in
    record {
      same = same ∙ ap (λ (i : List ℕ). unstaged r.modulus i y) c.of-roots.ensures.factors;
      below = subst (λ (i : List ℕ). Below r.modulus i) (sym same) (unstaged_below r.modulus w y (some r));
    }
