use Rattle.std.proofs.Common.{◌≡◌, ℕ, ◌<◌, get_or}
use Rattle.algebra.specs.Words.{word_of}
use Rattle.sweeps.specs.Held.{under}
use Rattle.sweeps.proofs.digits.finish.Given as goal

abbrev pub invariant-loop-k : goal.invariant-loop-k
invariant-loop-k l = (j : ℕ) → j < l.k → get_or l.row j 0 ≡ word_of l.modulus.value (under (get_or l.rest j 0))
