-- The laws of digits and keys.
use Rattle.algebra.proofs.GadgetLaws.{gadget_laws}
use Rattle.algebra.proofs.gadget_laws.Goals as goal

pub returns : goal.returns
returns c = gadget_laws
