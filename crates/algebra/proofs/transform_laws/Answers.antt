-- The laws of the transform.
use Rattle.algebra.proofs.TransformLaws.{transform_laws}
use Rattle.algebra.proofs.transform_laws.Goals as goal

pub returns : goal.returns
returns c = transform_laws
