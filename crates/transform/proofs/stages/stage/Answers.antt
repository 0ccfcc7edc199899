use Rattle.std.proofs.Common.{arith}
use Rattle.transform.specs.Stages.{plus, minus}
use Rattle.transform.specs.Pairs.{pairs_more}
use Rattle.transform.proofs.stages.stage.Goals as goal

pub loop-j-preserved : goal.loop-j-preserved
loop-j-preserved c =
    let w = c.args.roots.now.factors.now in
    let x = c.args.x.now in
    pairs_more (plus c.args.roots.now.ring.now.modulus w x) (minus c.args.roots.now.ring.now.modulus w x) c.loop-j.y c.loop-j.j _ _ (omega arith)
    c.loop-j.invariant c.butterfly-even.ensures.even c.butterfly-even.ensures.odd
