-- The laws of the ring.
use Rattle.algebra.proofs.RingLaws.{ring_laws}
use Rattle.algebra.proofs.ring_laws.Goals as goal

pub returns : goal.returns
returns c = ring_laws
