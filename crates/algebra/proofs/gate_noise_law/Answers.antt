-- The law of gates.
use Rattle.algebra.proofs.Gate.{gate_holds}
use Rattle.algebra.proofs.gate_noise_law.Goals as goal

pub returns : goal.returns
returns c = gate_holds
