use Rattle.kernels.proofs.FirstWrong.{lengths_least}
use Rattle.kernels.proofs.laws.lengths_are_least.Goals as goal

pub returns : goal.returns
returns c = lengths_least
