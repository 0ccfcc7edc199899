use Rattle.std.proofs.Common.{◌≡◌, ℕ, ◌<◌, get_or, map}
use Rattle.words.specs.Rounding.{rounded_to}
use Rattle.gate.proofs.vectors.narrow_words.Given as goal

abbrev pub invariant-loop-i : goal.invariant-loop-i
invariant-loop-i g l = (k : ℕ) → k < l.i → get_or (map g.W.Word.number l.out) k 0 ≡ rounded_to l.from.value l.to.value (get_or l.words k 0)
