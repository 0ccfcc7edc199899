use Rattle.std.proofs.Common.{◌-◌, eqb, ap}
use Rattle.rings.proofs.Built.{squared}
use Rattle.rings.proofs.check.wraps.Goals as goal

pub returns : goal.returns
returns c =
    ap (λ i. eqb i (c.args.modulus - 1))
    (squared c.args.root c.args.degree c.args.modulus c.args.halfway c.requires.even c.requires.power)
