use Rattle.calls.proofs.Every.{all_orders_are_calls}
use Rattle.calls.proofs.laws.orders_are_calls.Goals as goal

pub returns : goal.returns
returns c = all_orders_are_calls
