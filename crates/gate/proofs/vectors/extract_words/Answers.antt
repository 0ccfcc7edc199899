use Rattle.std.proofs.Common.{arith}
use Rattle.gate.proofs.Places.{extracted_from}
use Rattle.gate.proofs.vectors.extract_words.Goals as goal

pub returns : goal.returns
returns c =
    extracted_from c.args.degree c.args.modulus.value c.args.acc.now c.loop-j.out (omega arith) (λ k l. c.loop-j.invariant k (omega arith))
