use Rattle.std.proofs.Common.{◌/◌, ap, arith}
use Rattle.rings.proofs.Bits.{shifted, mu_low}
use Rattle.rings.proofs.build.mu_of.Goals as goal

pub overflow_cast-result-3 : goal.overflow_cast-result-3
overflow_cast-result-3 c =
    let s = ap (λ i. i / c.args.modulus) (shifted c.args.bits c.requires.some c.requires.few) in
    omega (arith, s, mu_low c.args.modulus c.args.bits c.requires.few c.requires.low)

pub returns : goal.returns
returns c = ap (λ i. i / c.args.modulus) (shifted c.args.bits c.requires.some c.requires.few)
