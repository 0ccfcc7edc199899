use Rattle.std.proofs.Common.{◌≡◌, ℕ, ◌/◌, ◌<◌, length, get_or, pos}
use Rattle.algebra.specs.Polys.{power}
use Rattle.algebra.specs.Gates.{test}
use Rattle.algebra.specs.Words.{word_of}
use Rattle.gate.proofs.beginning.begin_words.Given as goal

abbrev pub invariant-loop-k : goal.invariant-loop-k
invariant-loop-k l = (k : ℕ) → k < l.k
    → get_or l.out k 0 ≡ word_of l.modulus.value (power (length l.initial.out) l.exponent (test (length l.initial.out) (pos (l.modulus.value / 8))) k)
