use Rattle.std.proofs.Common.{length, arith}
use Rattle.sweeps.proofs.Filled.{words_fill}
use Rattle.sweeps.proofs.digits.finish.Goals as goal

pub returns : goal.returns
returns c =
    words_fill (length c.args.rest.now) c.args.modulus.value _ c.loop-k.row (omega arith) (λ j h. c.loop-k.invariant j (omega arith))
