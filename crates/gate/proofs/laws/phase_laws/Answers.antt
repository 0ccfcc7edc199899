use Rattle.gate.proofs.Phases.{phase_laws}
use Rattle.gate.proofs.laws.phase_laws.Goals as goal

pub returns : goal.returns
returns c = phase_laws
