-- One term of a product, as a word.
use Rattle.std.specs.Prelude.{ℕ, ◌+◌, ◌-◌, ◌%◌, cond, List, length, nat_lt, slice_index}

-- what X^i brings to place k: past the end the sign turns
abbrev pub brought : ℕ → List ℕ → ℕ → ℕ → ℕ
brought Q xs i k = cond (nat_lt k i) (Q - slice_index xs (length xs + k - i) % Q) (slice_index xs (k - i) % Q)
