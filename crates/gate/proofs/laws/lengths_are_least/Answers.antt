use Rattle.gate.proofs.Lists.{lengths_least}
use Rattle.gate.proofs.laws.lengths_are_least.Goals as goal

pub returns : goal.returns
returns c = lengths_least
