use Rattle.std.proofs.Common.{◌≡◌, is_some, None, Option, sym, ap, ◌∙◌}
use Rattle.std.proofs.lemmas.Result.{err_from_is_err_and}
use Rattle.faults.specs.declared.fault.Fault.{Fault}
use Rattle.set.specs.Rules.{rules_broken}
use Rattle.set.proofs.Rules.{cover_first, switch_first, root_first, closing_last}
use Rattle.set.proofs.check.checked.Goals as goal

pub returns-in_err-gadget-clause-answer : goal.returns-in_err-gadget-clause-answer
returns-in_err-gadget-clause-answer c =
    let w = c.args.within in
    let p = err_from_is_err_and c.from_residual.result c.from_residual.ensures.1 in
    rw (p.1, p.2)
    (sym (cover_first w.numbers c.args.stated w.fit c.in_err-gadget.field-0.0 (sym c.in_err-gadget.ensures.answer)))

pub returns-in_err-switcher-clause-answer : goal.returns-in_err-switcher-clause-answer
returns-in_err-switcher-clause-answer c =
    let w = c.args.within in
    let p = err_from_is_err_and c.from_residual-in_err-switcher.result c.from_residual-in_err-switcher.ensures.1 in
    rw (p.1, p.2)
    (sym (switch_first w.numbers c.args.stated w.fit c.in_err-switcher.field-0.0 (sym c.in_ok-gadget.ensures.answer) (sym c.in_err-switcher.ensures.answer)))

pub returns-in_err-ring-clause-answer : goal.returns-in_err-ring-clause-answer
returns-in_err-ring-clause-answer c =
    let w = c.args.within in
    let p = err_from_is_err_and c.from_residual-in_err-ring.result c.from_residual-in_err-ring.ensures.1 in
    rw (p.1, p.2)
    (sym (root_first w.numbers c.args.stated w.fit c.in_err-ring.field-0.0 (sym c.in_ok-gadget.ensures.answer) (sym c.in_ok-switcher.ensures.answer) (sym c.in_err-ring.ensures.answer)))

pub returns-in_err-check_closing-clause-answer : goal.returns-in_err-check_closing-clause-answer
returns-in_err-check_closing-clause-answer c =
    let w = c.args.within in
    let l = closing_last w.numbers c.args.stated w.fit (sym c.in_ok-gadget.ensures.answer) (sym c.in_ok-switcher.ensures.answer) (sym c.in_ok-ring.ensures.answer) in
    let p = err_from_is_err_and c.from_residual-in_err-check_closing.result c.from_residual-in_err-check_closing.ensures.1 in
    rw (p.1, p.2)
    (c.in_err-check_closing.ensures ∙ sym l)

pub invariant_of-result : goal.invariant_of-result
invariant_of-result c =
    let w = c.args.within in
    let l = closing_last w.numbers c.args.stated w.fit (sym c.in_ok-gadget.ensures.answer) (sym c.in_ok-switcher.ensures.answer) (sym c.in_ok-ring.ensures.answer) in
    let r : rules_broken w.numbers c.args.stated ≡ None = l ∙ sym c.in_ok-check_closing.ensures in
    record {
      rules = ap (λ (o : Option Fault). is_some o) r;
      same = c.in_ok-ring.ensures.made;
      digits = c.in_ok-gadget.ensures.made;
      places = c.in_ok-switcher.ensures.made;
    }
