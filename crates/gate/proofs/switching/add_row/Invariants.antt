use Rattle.std.proofs.Common.{◌≡◌, ℕ, ◌+◌, ◌*◌, ◌%◌, ◌^◌, ◌<◌, ◌≤◌, get_or}
use Rattle.gate.proofs.switching.add_row.Given as goal

abbrev pub invariant-loop-t : goal.invariant-loop-t
invariant-loop-t l =
    ((k : ℕ) → k < l.t → get_or l.out k 0 ≡ (get_or l.initial.out k 0 + l.digit * get_or l.row k 0 % 2 ^ 32) % 2 ^ 32)
    × ((k : ℕ) → l.t ≤ k → get_or l.out k 0 ≡ get_or l.initial.out k 0)
