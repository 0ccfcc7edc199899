use Rattle.std.proofs.Common.{◌≡◌, ℕ, ◌^◌, ◌<◌, ◌≤◌, get_or}
use Rattle.algebra.specs.Digits.{digit_of, rest_of}
use Rattle.algebra.specs.Words.{word_of}
use Rattle.sweeps.specs.Held.{under, Held}
use Rattle.sweeps.proofs.digits.peel.Given as goal

abbrev pub invariant-loop-k : goal.invariant-loop-k
invariant-loop-k l =
    ((j : ℕ) → j < l.k → get_or l.row j 0 ≡ word_of l.gadget.modulus.value (digit_of (2 ^ l.gadget.width) (under (get_or l.initial.rest j 0))))
    × ((j : ℕ) → j < l.k → under (get_or l.rest j 0) ≡ rest_of (2 ^ l.gadget.width) (under (get_or l.initial.rest j 0)))
    × ((j : ℕ) → j < l.k → Held l.gadget.modulus.value (get_or l.rest j 0))
    × ((j : ℕ) → l.k ≤ j → get_or l.rest j 0 ≡ get_or l.initial.rest j 0)
