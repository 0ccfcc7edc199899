use Rattle.std.proofs.Common.{◌≡◌, ℕ, ◌^◌, true, refl, sym, ap, ◌∙◌, arith}
use Rattle.words.specs.Powers.{power_within}
use Rattle.words.proofs.Gadgets.{log_power, exponent_few, exponent_some}
use Rattle.words.proofs.Moduli.{power_within_parts}
use Rattle.words.proofs.gadget.check.log_within.Goals as goal

pub returns : goal.returns
returns c =
    let t : power_within c.args.low c.args.high c.args.x ≡ true = sym c.power_in_range.ensures ∙ c.if-not-power_in_range.false in
    let p = power_within_parts c.args.low c.args.high c.args.x t in
    let l = p.1.0 in
    let h = p.1.1 in
    let e : 2 ^ c.log_of.result ≡ c.args.x = ap (λ (n : ℕ). 2 ^ n) c.log_of.ensures.same ∙ log_power c.args.low c.args.high c.args.x t in
    record {
      answer = rw t refl;
      power = e;
      few = exponent_few c.log_of.result (omega (arith, e, h, c.requires.few));
      some = λ two. exponent_some c.log_of.result (omega (arith, e, l, two));
    }
