use Rattle.std.proofs.Common.{arith}
use Rattle.registers.proofs.Memory.{reduced_from}
use Rattle.registers.proofs.rows.reduce.Goals as goal

pub returns : goal.returns
returns c = reduced_from _ _ _ _ (omega arith) (λ k h. c.loop-word.invariant.0 k (omega arith))
