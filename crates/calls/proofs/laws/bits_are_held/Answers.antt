use Rattle.calls.proofs.Held.{bits_held}
use Rattle.calls.proofs.laws.bits_are_held.Goals as goal

pub returns : goal.returns
returns c = bits_held
