-- Signed numbers kept as words of 32 bits: z as z + 2^31.
use Rattle.std.specs.Prelude.{◌≡◌, ℕ, ◌+◌, ◌/◌, ◌^◌, ◌<◌, ◌≤◌, List, length, ℤ, pos, ◌-ℤ◌, slice_index}
use Rattle.algebra.specs.Digits.{centred, lowered, rest_of}

-- the number that a word keeps
unfoldable pub under : ℕ → ℤ
under x = pos x -ℤ pos (2 ^ 31)

-- a word that keeps a number from -Q/2 to Q/2
abbrev pub Held : ℕ → ℕ → Type 0
Held Q x = (2 ^ 31 ≤ x + Q / 2) × (x ≤ 2 ^ 31 + Q / 2)

-- words that all do
abbrev pub AllHeld : ℕ → List ℕ → Type 0
AllHeld Q xs = (k : ℕ) → k < length xs → Held Q (slice_index xs k)

-- the number to split of each word of an accumulator
abbrev pub Lowered : ℕ → ℕ → List ℕ → List ℕ → Type 0
Lowered Q P acc new = (k : ℕ) → k < length acc → under (slice_index new k) ≡ lowered P (centred Q (slice_index acc k))

-- what remains of each number after a digit of base B
abbrev pub Peeled : ℕ → List ℕ → List ℕ → Type 0
Peeled B rest new = (k : ℕ) → k < length rest → under (slice_index new k) ≡ rest_of B (under (slice_index rest k))
