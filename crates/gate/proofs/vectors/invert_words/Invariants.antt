use Rattle.std.proofs.Common.{◌≡◌, ℕ, ◌/◌, ◌<◌, ◌≤◌, cond, eqb, get_or, pos, ◌-ℤ◌}
use Rattle.algebra.specs.Words.{word_of}
use Rattle.gate.proofs.vectors.invert_words.Given as goal

abbrev pub invariant-loop-i : goal.invariant-loop-i
invariant-loop-i l =
    ((k : ℕ) → k < l.i → get_or l.words k 0 ≡ word_of l.modulus.value (pos (cond (eqb k l.last) (l.modulus.value / 4) 0) -ℤ pos (get_or l.initial.words k 0)))
    × ((k : ℕ) → l.i ≤ k → get_or l.words k 0 ≡ get_or l.initial.words k 0)
