use Rattle.std.proofs.Common.{◌∙◌, arith}
use Rattle.words.proofs.Powers.{one_bit}
use Rattle.words.proofs.modulus.check.is_power.Goals as goal

pub returns : goal.returns
returns c = c.is_power_of_two.ensures ∙ one_bit c.args.x (omega arith)
