use Rattle.std.proofs.Common.{◌≡◌, ℕ, ◌<◌, ◌≤◌, get_or}
use Rattle.sweeps.specs.Mixing.{is_minus, mixed}
use Rattle.sweeps.proofs.rotation.mix_each.Given as goal

abbrev pub invariant-loop-k : goal.invariant-loop-k
invariant-loop-k l =
    ((i : ℕ) → i < l.k → get_or l.acc i 0 ≡ mixed l.modulus.value (is_minus l.sign) (get_or l.initial.acc i 0) (get_or l.moved i 0) (get_or l.still i 0))
    × ((i : ℕ) → l.k ≤ i → get_or l.acc i 0 ≡ get_or l.initial.acc i 0)
