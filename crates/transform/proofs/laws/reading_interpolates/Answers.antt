use Rattle.transform.proofs.Interpolation.{interpolation}
use Rattle.transform.proofs.laws.reading_interpolates.Goals as goal

pub returns : goal.returns
returns c = interpolation
