use Rattle.std.proofs.Common.{◌≡◌, ℕ, ◌%◌, ◌<◌, ◌≤◌, get_or}
use Rattle.registers.proofs.rows.reduce.Given as goal

abbrev pub invariant-loop-word : goal.invariant-loop-word
invariant-loop-word l =
    ((k : ℕ) → k < l.word-index → get_or l.row k 0 ≡ get_or l.initial.row k 0 % l.q)
    × ((k : ℕ) → l.word-index ≤ k → get_or l.row k 0 ≡ get_or l.initial.row k 0)
