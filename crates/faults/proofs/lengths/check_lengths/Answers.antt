use Rattle.std.proofs.Common.{Some, None, ◌≡◌, ap, sym, ◌∙◌, arith}
use Rattle.std.specs.Result.{result_unwrap_or}
use Rattle.std.proofs.lemmas.Result.{Ok-from_Ok_iff}
use Rattle.faults.specs.declared.fault.Fault.TheVariants.{Length}
use Rattle.faults.proofs.FirstWrong.{wrong_by, right_by}
use Rattle.faults.proofs.lengths.check_lengths.Goals as goal

pub returns-in-Some-clause-answer : goal.returns-in-Some-clause-answer
returns-in-Some-clause-answer c =
    λ few. let same : c.unwrap_or.result ≡ c.in-Some.list =
    c.unwrap_or.ensures ∙ ap (λ r. result_unwrap_or r 4294967295) (Ok-from_Ok_iff c.try_from.result _ _ c.try_from.ensures (omega (arith, few, c.in-Some.ensures.within))) in
    ap (λ i. Some (Length i c.args.part)) same ∙ sym (wrong_by c.args.part c.args.lists.now (Some c.in-Some.list) (sym c.in-Some.is ∙ c.first_wrong.ensures.first))

pub returns-in-None-clause-answer : goal.returns-in-None-clause-answer
returns-in-None-clause-answer c =
    λ few. sym (wrong_by c.args.part c.args.lists.now None (sym c.in-None.is ∙ c.first_wrong.ensures.first))

pub returns-in-None-clause-fits : goal.returns-in-None-clause-fits
returns-in-None-clause-fits c = λ h. right_by c.args.lists.now (sym c.in-None.is ∙ c.first_wrong.ensures.first)
