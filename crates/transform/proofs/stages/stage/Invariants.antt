use Rattle.transform.specs.Stages.{Staged}
use Rattle.transform.proofs.stages.stage.Given as goal

abbrev pub invariant-loop-j : goal.invariant-loop-j
invariant-loop-j l = Staged l.roots.ring.now.modulus l.roots.factors.now l.x l.y l.j
