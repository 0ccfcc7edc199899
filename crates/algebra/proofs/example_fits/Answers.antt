use Rattle.algebra.proofs.Example.{example_fits}
use Rattle.algebra.proofs.example_fits.Goals as goal

pub returns : goal.returns
returns c = example_fits
