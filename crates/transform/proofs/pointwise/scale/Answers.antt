use Rattle.std.proofs.Common.{arith}
use Rattle.transform.specs.Reading.{scaled_from}
use Rattle.transform.proofs.pointwise.scale.Goals as goal

pub returns : goal.returns
returns c =
    scaled_from c.args.ring.now c.args.words.now c.loop-word.words (omega arith)
    (λ k h. c.loop-word.invariant.0 k (omega arith))
