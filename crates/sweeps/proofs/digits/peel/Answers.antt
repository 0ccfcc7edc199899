use Rattle.std.proofs.Common.{length, arith}
use Rattle.sweeps.proofs.Filled.{words_fill}
use Rattle.sweeps.proofs.digits.peel.Goals as goal

pub returns-clause-row : goal.returns-clause-row
returns-clause-row c =
    words_fill (length c.args.rest.now) c.args.gadget.now.modulus.value _ c.loop-k.row (omega arith) (λ j h. c.loop-k.invariant.0 j (omega arith))
