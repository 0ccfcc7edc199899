use Rattle.std.proofs.Common.{arith}
use Rattle.rings.proofs.Bits.{quotient_low}
use Rattle.rings.proofs.tables.quotient_of.Goals as goal

pub overflow_cast-result-3 : goal.overflow_cast-result-3
overflow_cast-result-3 c = quotient_low c.args.factor c.args.modulus c.requires (omega (arith, c.ranges.modulus))
