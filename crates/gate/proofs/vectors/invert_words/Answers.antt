use Rattle.std.proofs.Common.{arith}
use Rattle.gate.proofs.Places.{inverted_from}
use Rattle.gate.proofs.vectors.invert_words.Goals as goal

pub returns : goal.returns
returns c =
    inverted_from c.args.last c.args.modulus.value c.args.words.now c.loop-i.words (omega arith) (λ k l. c.loop-i.invariant.0 k (omega arith))
