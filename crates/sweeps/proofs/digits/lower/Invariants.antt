use Rattle.std.proofs.Common.{◌≡◌, ℕ, ◌^◌, ◌<◌, get_or}
use Rattle.algebra.specs.Digits.{centred, lowered}
use Rattle.sweeps.specs.Held.{under, Held}
use Rattle.sweeps.proofs.digits.lower.Given as goal

abbrev pub invariant-loop-k : goal.invariant-loop-k
invariant-loop-k l =
    ((j : ℕ) → j < l.k → under (get_or l.rest j 0) ≡ lowered (2 ^ l.gadget.shift) (centred l.gadget.modulus.value (get_or l.acc j 0)))
    × ((j : ℕ) → j < l.k → Held l.gadget.modulus.value (get_or l.rest j 0))
