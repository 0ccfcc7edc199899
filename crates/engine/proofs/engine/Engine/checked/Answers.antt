use Rattle.std.proofs.lemmas.Result.{err_from_is_err_and}
use Rattle.engine.proofs.engine.Engine.checked.Goals as goal

pub returns-in_err-set-clause-least : goal.returns-in_err-set-clause-least
returns-in_err-set-clause-least g c =
    let p = err_from_is_err_and c.from_residual.result c.from_residual.ensures.1 in
    rw (p.1, p.2) c.in_err-set.ensures.least
