use Rattle.std.proofs.Common.{length, arith}
use Rattle.gate.proofs.Turned.{beginning_from}
use Rattle.gate.proofs.beginning.begin_words.Goals as goal

pub returns : goal.returns
returns c =
    beginning_from (length c.args.out.now) c.args.modulus.value c.args.exponent c.loop-k.out (omega arith)
    (λ k l. c.loop-k.invariant k (omega arith))
