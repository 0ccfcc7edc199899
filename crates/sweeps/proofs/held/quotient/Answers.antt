use Rattle.sweeps.proofs.Keeping.{quotient_value, quotient_held}
use Rattle.sweeps.proofs.held.quotient.Goals as goal

pub returns : goal.returns
returns c =
    let e = c.half_of.ensures.value in
    rw e (record {
      value = quotient_value c.args.x c.args.width c.args.modulus.value c.args.modulus.high c.requires.width c.requires.held;
      held = quotient_held c.args.x c.args.width c.args.modulus.value c.args.modulus.high c.requires.width c.requires.held;
    })
