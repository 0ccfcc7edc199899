-- Powers of two and their logarithms.
use Rattle.std.specs.Prelude.{◌≡◌, ℕ, ◌-◌, ◌^◌, Bool, ◌&&◌, ◌==◌, nat_le}
use Rattle.std.specs.Int.Count.{count_leading_zeros}

-- x is a power of two
abbrev pub Power : ℕ → Type 0
Power x = (k : ℕ) × (x ≡ 2 ^ k)

-- the base-2 logarithm of a number of 32 bits, rounded down; 0 for 0
unfoldable pub log2 : ℕ → ℕ
unfolding count_leading_zeros
log2 x = 31 - count_leading_zeros 32 x

-- the test for a power of two
abbrev pub is_power : ℕ → Bool
is_power x = x == 2 ^ log2 x

-- a power of two from low to high
abbrev pub power_within : ℕ → ℕ → ℕ → Bool
power_within low high x = is_power x && (nat_le low x && nat_le x high)

-- a number from low to high
abbrev pub within : ℕ → ℕ → ℕ → Bool
within low high x = nat_le low x && nat_le x high
