use Rattle.std.proofs.Common.{◌∙◌, arith}
use Rattle.words.proofs.Powers.{log_is}
use Rattle.words.proofs.modulus.check.log_of.Goals as goal

pub returns-clause-same : goal.returns-clause-same
returns-clause-same c =
    let e = c.checked_ilog2.ensures in
    c.unwrap_or.ensures ∙ log_is c.checked_ilog2.result c.args.x (omega arith) e.none e.power_le e.next_power_gt
