-- The table of roots that a ring's transform reads.
use Rattle.std.specs.Prelude.{◌≡◌, ℕ, zero, suc, ◌+◌, ◌-◌, ◌*◌, ◌/◌, ◌%◌, ◌^◌, ◌<◌, List, length, slice_index}

-- the number whose s low bits are those of b, mirrored
abbrev pub mirror : ℕ → ℕ → ℕ
mirror zero b = 0
mirror (suc s) b = mirror s (b / 2) + b % 2 * 2 ^ s

-- the power of ψ at place i of the table, which has a row of h roots for each of its n stages
unfoldable pub exponent : ℕ → ℕ → ℕ → ℕ
exponent n h i = 2 ^ (n - 1 - i / h) * (2 * mirror (i / h) (i % h % 2 ^ (i / h)) + 1)

-- the powers of ψ modulo Q, from the power 0 on
abbrev pub Powers : ℕ → ℕ → List ℕ → Type 0
Powers Q ψ all = (e : ℕ) → e < length all → slice_index all e ≡ ψ ^ e % Q
