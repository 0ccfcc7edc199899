use Rattle.transform.proofs.Shoup.{subtract_high, subtract_low}
use Rattle.transform.proofs.field.subtract.Goals as goal

pub returns-then-less-lt2147483648 : goal.returns-then-less-lt2147483648
returns-then-less-lt2147483648 c =
    let r = c.args.ring.now in
    subtract_high c.args.u c.args.v r.modulus c.requires.left c.requires.right r.limits.2 c.if-less-lt2147483648.true

pub returns-else-less-lt2147483648 : goal.returns-else-less-lt2147483648
returns-else-less-lt2147483648 c =
    let r = c.args.ring.now in
    subtract_low c.args.u c.args.v r.modulus c.requires.left c.requires.right r.limits.2 c.if-less-lt2147483648.false
