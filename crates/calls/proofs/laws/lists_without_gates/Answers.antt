use Rattle.calls.proofs.Every.{every_gateless}
use Rattle.calls.proofs.laws.lists_without_gates.Goals as goal

pub returns : goal.returns
returns c = every_gateless
