use Rattle.sweeps.proofs.Taken.{take_laws}
use Rattle.sweeps.proofs.laws.taken_means.Goals as goal

pub returns : goal.returns
returns c = take_laws
