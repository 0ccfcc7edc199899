use Rattle.std.proofs.Common.{◌∙◌, arith}
use Rattle.transform.proofs.Shoup.{nearly}
use Rattle.transform.proofs.field.mul_shoup.Goals as goal

pub reduce_once-requires : goal.reduce_once-requires
reduce_once-requires c =
    let n = nearly c.args.x c.args.factor c.args.quotient c.args.ring.now.modulus c.requires.low c.args.ring.now.limits.2 (omega arith) c.requires.shoup in
    n.low

pub returns : goal.returns
returns c =
    let n = nearly c.args.x c.args.factor c.args.quotient c.args.ring.now.modulus c.requires.low c.args.ring.now.limits.2 (omega arith) c.requires.shoup in
    c.reduce_once.ensures ∙ n.same
