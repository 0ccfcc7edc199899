use Rattle.std.proofs.Common.{rules}
use Rattle.gate.specs.Gates.{settled_of}
use Rattle.gate.proofs.refresh.settle_in.Goals as goal

pub returns : goal.returns
unfolding settled_of
returns c = search rules
