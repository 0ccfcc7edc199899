use Rattle.std.proofs.Common.{◌≡◌, ◌^◌, true, false, sym, refl, ◌∙◌}
use Rattle.std.proofs.lemmas.Bool.{le-leb, lt-leb}
use Rattle.words.specs.Gadgets.{covers}
use Rattle.words.proofs.Gadgets.{covers_not, covers_is, covers_parts, within_parts}
use Rattle.words.proofs.gadget.check.covering.Goals as goal
use Rattle.words.proofs.gadget.check.covering.Goals.{then-total-gt40-via-then-total-gt40, then-total-gt40-via-else-total-gt40+then-modulus-total}

pub returns-then-total-gt40-clause-answer : goal.returns-then-total-gt40-clause-answer
returns-then-total-gt40-clause-answer c =
    let t : covers c.args.modulus (2 ^ c.args.shift) (2 ^ c.args.width) c.args.digits ≡ false =
    elim c.then-total-gt40.branch [
      | then-total-gt40-via-then-total-gt40 w ↦ covers_not c.args.modulus c.args.shift c.args.width c.args.digits w.if-total-gt40.true
      | then-total-gt40-via-else-total-gt40+then-modulus-total w ↦ sym (covers_is c.args.modulus c.args.shift c.args.width c.args.digits w.if-total-gt40.false) ∙ lt-leb _ _ w.if-modulus-total.true
    ] in
    rw t refl

pub invariant_of-result-2 : goal.invariant_of-result-2
invariant_of-result-2 c =
    let t : covers c.args.modulus (2 ^ c.args.shift) (2 ^ c.args.width) c.args.digits ≡ true =
    sym (covers_is c.args.modulus c.args.shift c.args.width c.args.digits c.if-total-gt40.false) ∙ le-leb _ _ c.if-modulus-total.false in
    let p = covers_parts c.args.modulus (2 ^ c.args.shift) (2 ^ c.args.width) c.args.digits t in
    record {
      part = c.requires.part;
      base = c.requires.base;
      count = within_parts 1 31 c.args.digits c.requires.count;
      reach = p.0;
      room = p.1;
    }
