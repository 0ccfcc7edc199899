use Rattle.std.proofs.Common.{◌≡◌, ℕ, ◌<◌, ◌≤◌, length, get_or, pos, ◌+ℤ◌}
use Rattle.algebra.specs.Polys.{mul}
use Rattle.algebra.specs.Words.{coeffs, word_of}
use Rattle.kernels.proofs.schoolbook.fuse.Given as goal

abbrev pub invariant-loop-k : goal.invariant-loop-k
invariant-loop-k l =
    ((j : ℕ) → j < l.k → get_or l.acc j 0
    ≡ word_of l.ring.modulus (pos (get_or l.initial.acc j 0) +ℤ mul (length l.right) (coeffs l.left) (coeffs l.right) j))
    × ((j : ℕ) → l.k ≤ j → get_or l.acc j 0 ≡ get_or l.initial.acc j 0)
