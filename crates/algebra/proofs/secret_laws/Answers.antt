-- The laws of made keys and of held bits.
use Rattle.algebra.proofs.SecretLaws.{secret_laws}
use Rattle.algebra.proofs.secret_laws.Goals as goal

pub returns : goal.returns
returns c = secret_laws
