use Rattle.std.proofs.Common.{◌<◌, length, pos, ◌+ℤ◌, ◌*ℤ◌}
use Rattle.algebra.specs.Ints.{Cong, sum_z}
use Rattle.algebra.specs.Polys.{wrapped}
use Rattle.algebra.specs.Words.{coeffs}
use Rattle.kernels.proofs.schoolbook.coefficient.Given as goal

abbrev pub invariant-loop-i : goal.invariant-loop-i
invariant-loop-i l =
    (l.sum < l.ring.modulus)
    × Cong l.ring.modulus (pos l.sum) (pos l.start +ℤ sum_z l.i (λ j. coeffs l.left j *ℤ wrapped (length l.right) j (coeffs l.right) l.k))
