use Rattle.std.proofs.Common.{◌≡◌, ℕ, ◌<◌, get_or}
use Rattle.transform.specs.Stages.{sums, diffs}
use Rattle.transform.proofs.stages.unstage.Given as goal

abbrev pub invariant-loop-j : goal.invariant-loop-j
invariant-loop-j l =
    (k : ℕ) → k < l.j
    → (get_or l.front k 0 ≡ sums l.roots.ring.now.modulus l.y k) × (get_or l.back k 0 ≡ diffs l.roots.ring.now.modulus l.roots.factors.now l.y k)
