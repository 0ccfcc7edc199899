use Rattle.calls.proofs.Lending.{verdict_told}
use Rattle.calls.proofs.lend.Loaded.operate.Goals as goal

pub returns-clause-answer : goal.returns-clause-answer
returns-clause-answer g c = verdict_told _ c.act.result _ c.into.ensures c.act.ensures.answer
