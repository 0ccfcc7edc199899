use Rattle.std.proofs.Common.{ℕ, List, sym, ap, ◌∙◌, subst, ap₂}
use Rattle.algebra.specs.Gates.{invert}
use Rattle.gate.specs.Gates.{InvertHolds}
use Rattle.gate.proofs.Opposite.{inverts}
use Rattle.gate.proofs.inverse.invert_right.Goals as goal

pub returns : goal.returns
returns c =
    let w = c.args.set.now.within in
    let e = c.invert_words.ensures
    ∙ ap (λ (xs : List ℕ). invert c.dimension.result c.least.result.value xs) c.copy_from_slice.ensures.after
    ∙ ap₂ (λ (n q : ℕ). invert n q c.args.x.now) c.dimension.ensures.value c.least.ensures in
    record {
      words = e;
      holds = subst (λ (r : List ℕ). InvertHolds w c.args.x.now r) (sym e) (inverts w c.args.x.now);
    }
