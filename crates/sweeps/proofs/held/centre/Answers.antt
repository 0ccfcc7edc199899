use Rattle.sweeps.proofs.Keeping.{centred_high, centred_low}
use Rattle.sweeps.proofs.held.centre.Goals as goal

pub returns-then-modulus-word : goal.returns-then-modulus-word
returns-then-modulus-word c =
    let h = centred_high c.args.modulus.value c.args.word c.args.modulus.high c.if-modulus-word.true c.requires in
    record { value = h.0; held = h.1 }

pub returns-else-modulus-word : goal.returns-else-modulus-word
returns-else-modulus-word c =
    let h = centred_low c.args.modulus.value c.args.word c.if-modulus-word.false in
    record { value = h.0; held = h.1 }
