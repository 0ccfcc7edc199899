use Rattle.std.proofs.Common.{◌≡◌, ℕ, ◌%◌, ◌<◌, ◌≤◌, get_or}
use Rattle.kernels.proofs.remainders.divide.Given as goal

abbrev pub invariant-loop-word : goal.invariant-loop-word
invariant-loop-word l =
    ((k : ℕ) → k < l.word-index → get_or l.words k 0 ≡ get_or l.initial.words k 0 % l.modulus.value)
    × ((k : ℕ) → l.word-index ≤ k → get_or l.words k 0 ≡ get_or l.initial.words k 0)
