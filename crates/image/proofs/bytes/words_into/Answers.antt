use Rattle.std.proofs.Common.{arith}
use Rattle.image.proofs.Words.{words_from}
use Rattle.image.proofs.bytes.words_into.Goals as goal

pub returns : goal.returns
returns c = words_from c.args.part.now c.loop-k.out _ (omega arith) (λ k h. c.loop-k.invariant k (omega arith))
