use Rattle.sweeps.proofs.Made.{keys_fit}
use Rattle.sweeps.proofs.laws.made_keys_fit.Goals as goal

pub returns : goal.returns
returns c = keys_fit
