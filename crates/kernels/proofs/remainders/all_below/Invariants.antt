use Rattle.std.proofs.Common.{◌≡◌, ℕ, ◌<◌, true, get_or}
use Rattle.kernels.proofs.remainders.all_below.Given as goal

abbrev pub invariant-loop-word : goal.invariant-loop-word
invariant-loop-word l = record {
  only : l.low ≡ true → (k : ℕ) → k < l.word-index → get_or l.words k 0 < l.modulus;
  all : ((k : ℕ) → k < l.word-index → get_or l.words k 0 < l.modulus) → l.low ≡ true;
}
