use Rattle.gate.proofs.Opened.{bit_laws}
use Rattle.gate.proofs.laws.bit_laws.Goals as goal

pub returns : goal.returns
returns c = bit_laws
