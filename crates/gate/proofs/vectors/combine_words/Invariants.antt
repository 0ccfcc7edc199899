use Rattle.std.proofs.Common.{◌≡◌, ℕ, ◌+◌, ◌*◌, ◌/◌, ◌<◌, cond, eqb, get_or, pos, ◌-ℤ◌}
use Rattle.algebra.specs.Words.{word_of}
use Rattle.gate.proofs.vectors.combine_words.Given as goal

abbrev pub invariant-loop-i : goal.invariant-loop-i
invariant-loop-i l = (k : ℕ) → k < l.i
    → get_or l.out k 0 ≡ word_of l.modulus.value (pos (cond (eqb k l.last) (l.offset * (l.modulus.value / 8)) 0) -ℤ pos (l.times * (get_or l.x k 0 + get_or l.y k 0)))
