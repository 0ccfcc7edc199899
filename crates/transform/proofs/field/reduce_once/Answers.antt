use Rattle.transform.proofs.Shoup.{reduce_high}
use Rattle.transform.proofs.field.reduce_once.Goals as goal

pub returns-then-less-lt2147483648 : goal.returns-then-less-lt2147483648
returns-then-less-lt2147483648 c =
    let r = c.args.ring.now in reduce_high c.args.x r.modulus c.requires r.limits.2 c.if-less-lt2147483648.true
