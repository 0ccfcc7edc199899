use Rattle.std.proofs.Common.{◌≡◌, ℕ, Option, sym, ap, ◌∙◌, subst, arith}
use Rattle.std.proofs.lemmas.Result.{err_from_is_err_and, IfOk-weaker}
use Rattle.faults.specs.declared.fault.Fault.{Fault}
use Rattle.faults.specs.Least.{Least}
use Rattle.set.specs.declared.numbers.Numbers.{Numbers}
use Rattle.set.specs.Limits.{limits_broken}
use Rattle.set.specs.Rules.{rules_broken, WrongSet}
use Rattle.set.proofs.Limits.{Short, or_first, or_next}
use Rattle.set.proofs.Rules.{set_least}
use Rattle.sweeps.specs.Checking.{StatedFor}
use Rattle.sweeps.proofs.Unique.{within_same}
use Rattle.sweeps.proofs.check.check_for.Goals as goal

pub returns-in_err-within : goal.returns-in_err-within
returns-in_err-within g c =
    let n = c.args.numbers in
    let short : Short n =
    record { degree_short = omega arith; small_short = omega arith; dropped_short = omega arith; base_short = omega arith; switch_short = omega arith; radix_short = omega arith } in
    let p = err_from_is_err_and c.from_residual.result c.from_residual.ensures.1 in
    let first = λ (stated : ℕ). sym (or_first (limits_broken n) (rules_broken n stated) c.in_err-within.field-0.0 (sym c.in_err-within.ensures.answer)) in
    rw (p.1, p.2)
    (record {
      answer = λ stated h. first stated;
      made = tt;
      least = λ stated h. subst (λ (a : Option Fault). Least (WrongSet n stated) a) (sym (first stated)) (set_least n stated short);
    })

pub returns : goal.returns
returns g c =
    let n = c.args.numbers in
    let short : Short n =
    record { degree_short = omega arith; small_short = omega arith; dropped_short = omega arith; base_short = omega arith; switch_short = omega arith; radix_short = omega arith } in
    let w = c.in_ok-within.within in
    let e : w.numbers ≡ n = c.in_ok-within.ensures.made in
    let v : c.stated-stated.result ≡ g.S.Sweep.noise w = c.stated-stated.ensures in
    let said = λ (stated : ℕ) (h : StatedFor g.S.Sweep.noise n stated).
    c.checked.ensures.answer ∙ ap (λ (m : Numbers). rules_broken m c.stated-stated.result) e ∙ ap (λ (x : ℕ). rules_broken n x) (v ∙ h w e)
    ∙ sym (or_next (limits_broken n) (rules_broken n stated) (sym c.in_ok-within.ensures.answer)) in
    record {
      answer = said;
      made = IfOk-weaker c.checked.result _ _
          (λ s p. (p.0 ∙ e, p.1 ∙ v ∙ ap g.S.Sweep.noise (within_same w s.within (sym p.0)))) c.checked.ensures.made;
      least = λ stated h. subst (λ (a : Option Fault). Least (WrongSet n stated) a) (sym (said stated h)) (set_least n stated short);
    }
