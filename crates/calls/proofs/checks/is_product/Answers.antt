use Rattle.std.proofs.Common.{arith}
use Rattle.calls.proofs.Refused.{rows_not}
use Rattle.calls.proofs.checks.is_product.Goals as goal

pub returns-else-n-size-eq0 : goal.returns-else-n-size-eq0
returns-else-n-size-eq0 c = rows_not c.args.n c.args.size c.args.rows (λ e. omega arith)
