use Rattle.std.proofs.Common.{mod-lt, arith}
use Rattle.gate.proofs.Places.{minus_word}
use Rattle.gate.proofs.vectors.minus.Goals as goal

pub returns : goal.returns
returns c = record {
  value = minus_word c.args.modulus.value c.args.head c.args.number (omega (arith, c.args.modulus.low));
  below = mod-lt _ (omega (arith, c.args.modulus.low));
}
