use Rattle.std.proofs.Common.{◌≡◌, ℕ, ◌<◌, ◌≤◌, get_or}
use Rattle.transform.specs.Pointwise.{fused_word}
use Rattle.transform.proofs.pointwise.fuse_low.Given as goal

abbrev pub invariant-loop-i : goal.invariant-loop-i
invariant-loop-i l =
    ((k : ℕ) → k < l.i → get_or l.acc k 0 ≡ fused_word l.ring.modulus (get_or l.initial.acc k 0) (get_or l.left k 0) (get_or l.right k 0))
    × ((k : ℕ) → l.i ≤ k → get_or l.acc k 0 ≡ get_or l.initial.acc k 0)
