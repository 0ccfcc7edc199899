use Rattle.std.proofs.Common.{arith}
use Rattle.transform.proofs.Folding.{pointwise_from}
use Rattle.transform.proofs.pointwise.fuse_low.Goals as goal

pub returns : goal.returns
returns c = pointwise_from _ _ _ _ _ _ (omega arith) (λ k h. c.loop-i.invariant.0 k (omega arith))
