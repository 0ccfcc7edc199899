use Rattle.std.proofs.Common.{arith}
use Rattle.gate.proofs.lengths.check_lengths.Goals as goal

pub returns : goal.returns
returns c = record {
  answer = c.check_lengths.ensures.answer (omega (arith, c.requires));
  fits = c.check_lengths.ensures.fits;
}
