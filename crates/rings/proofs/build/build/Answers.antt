use Rattle.std.proofs.Common.{ℕ, ◌*◌, ◌/◌, ◌%◌, ap, ◌∙◌, arith}
use Rattle.rings.proofs.Built.{halved, roots_are}
use Rattle.rings.proofs.Bits.{bits_few, bits_strict, square_fits}
use Rattle.rings.proofs.build.build.Goals as goal

pub mu_of-mu-requires-clause-low : goal.mu_of-mu-requires-clause-low
mu_of-mu-requires-clause-low c =
    let b = c.bits_of-bits.ensures in
    bits_strict c.args.modulus c.bits_of-bits.result c.requires.odd (omega (arith, c.requires.more)) b.low b.high

-- the invariants, in the order of the struct
pub invariant_of-result : goal.invariant_of-result
invariant_of-result c =
    let Q : ℕ = c.args.modulus in
    let h = halved c.args.degree c.args.log c.requires.size c.requires.some c.requires.few in
    let b = c.bits_of-bits.ensures in
    let i = c.inverse_of-inverse in
    let one = ap (λ n. i.result * n % Q) c.requires.size ∙ i.ensures.one in
    let are =
    roots_are Q c.args.root c.args.log (c.args.degree / 2) c.args.powers.now
    c.roots-roots.result h.half (omega (arith, c.requires.whole, h.twice)) c.requires.table
    c.roots-roots.ensures.same in
    record {
      size = (c.requires.size, h.half, c.requires.some, c.requires.few);
      range = (h.low, h.high, h.twice);
      limits = (c.requires.odd, c.requires.more, c.requires.fits, c.requires.least, c.requires.low);
      wraps = c.requires.wraps;
      scale = (i.ensures.low, one, c.quotient_of-sharp.ensures);
      width = (b.some, bits_few Q c.bits_of-bits.result c.requires.fits b.low, b.low, square_fits Q c.bits_of-bits.result b.some b.high);
      barrett = c.mu_of-mu.ensures;
      long = (c.roots-roots.ensures.long, c.quotients-quotients.ensures.long);
      powers = are;
      shoup = c.quotients-quotients.ensures.same;
    }
