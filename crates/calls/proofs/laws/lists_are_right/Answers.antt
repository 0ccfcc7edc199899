use Rattle.calls.proofs.Every.{every_list}
use Rattle.calls.proofs.laws.lists_are_right.Goals as goal

pub returns : goal.returns
returns c = every_list
