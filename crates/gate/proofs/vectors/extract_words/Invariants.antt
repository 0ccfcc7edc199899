use Rattle.std.proofs.Common.{◌≡◌, ℕ, ◌/◌, ◌<◌, get_or, pos}
use Rattle.algebra.specs.Gates.{extracted}
use Rattle.algebra.specs.Words.{coeffs, word_of}
use Rattle.gate.proofs.vectors.extract_words.Given as goal

abbrev pub invariant-loop-j : goal.invariant-loop-j
invariant-loop-j l = (k : ℕ) → k < l.j
    → get_or l.out k 0 ≡ word_of l.modulus.value (extracted l.degree (pos (l.modulus.value / 8)) (coeffs l.acc) k)
