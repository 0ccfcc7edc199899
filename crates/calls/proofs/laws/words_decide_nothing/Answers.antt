use Rattle.calls.proofs.Blind.{words_decide_nothing_lem}
use Rattle.calls.proofs.laws.words_decide_nothing.Goals as goal

pub returns : goal.returns
returns c = words_decide_nothing_lem
