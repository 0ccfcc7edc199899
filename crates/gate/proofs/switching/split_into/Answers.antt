use Rattle.std.proofs.Common.{ℕ, ◌^◌, ◌<◌, cond, List, length, get_or, ℤ, pos, nat_abs, is_ok, Result, sym, refl, ap, ◌∙◌, subst}
use Rattle.faults.specs.declared.fault.Fault.{Fault}
use Rattle.faults.specs.declared.fault.Fault.TheVariants.{Length}
use Rattle.faults.specs.declared.fault.Layer.TheVariants.{Digits}
use Rattle.faults.specs.Least.{told}
use Rattle.gate.specs.Stages.{split_by}
use Rattle.gate.proofs.Answers.{right_length}
use Rattle.gate.proofs.Rows.{digit_small}
use Rattle.gate.proofs.switching.split_into.Goals as goal

pub returns : goal.returns
returns c =
    let g = c.args.gadget.now in
    let d = split_by c.args.gadget.now c.args.word in
    let ok = c.split.ensures.answer ∙ ap told (right_length (length c.args.digits.now) g.digits (Length 0 Digits) c.requires) in
    let e = c.split.ensures.digits ∙ ap (λ (r : Result (Unit {0}) Fault). cond (is_ok r) d c.args.digits.now) ok in
    record {
      same = e;
      small = subst (λ (xs : List ℤ). (i : ℕ) → i < length xs → nat_abs (get_or xs i (pos 0)) < 2 ^ 31) (sym e)
          (λ i l. digit_small g.modulus.value (2 ^ g.shift) (2 ^ g.width) g.digits c.args.word g.width i refl g.base.1 c.split.ensures.right l);
    }
