use Rattle.std.proofs.Common.{◌≡◌, ℕ, ◌<◌, false, get_or}
use Rattle.transform.proofs.pointwise.all_reduced.Given as goal

abbrev pub invariant-loop-i : goal.invariant-loop-i
invariant-loop-i l =
    l.high ≡ false
    → (k : ℕ) → k < l.i → (get_or l.acc k 0 < l.modulus) × (get_or l.left k 0 < l.modulus) × (get_or l.right k 0 < l.modulus)
