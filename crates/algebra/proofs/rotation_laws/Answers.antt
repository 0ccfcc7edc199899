-- The laws of sweeps.
use Rattle.algebra.proofs.RotationLaws.{rotation_laws}
use Rattle.algebra.proofs.rotation_laws.Goals as goal

pub returns : goal.returns
returns c = rotation_laws
