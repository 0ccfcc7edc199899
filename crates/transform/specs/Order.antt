-- The order in which a form has its values.
use Rattle.std.specs.Prelude.{◌≡◌, ℕ, ◌+◌, ◌*◌, ◌%◌, ◌^◌, ◌<◌}
use Rattle.rings.specs.Tables.{mirror}

-- the odd number of place k, of 2^n places: twice the number whose n bits are those of k mirrored, and 1
abbrev pub order : ℕ → ℕ → ℕ
order n k = 2 * mirror n k + 1

-- the odd numbers below 2 * 2^n, each at exactly one place below 2^n
pub record Odds (n : ℕ) : Type 0 where
  pub odd : (k : ℕ) → order n k % 2 ≡ 1
  pub low : (k : ℕ) → order n k < 2 * 2 ^ n
  pub once : (j k : ℕ) → j < 2 ^ n → k < 2 ^ n → order n j ≡ order n k → j ≡ k
  pub each : (m : ℕ) → m % 2 ≡ 1 → m < 2 * 2 ^ n → (k : ℕ) × ((k < 2 ^ n) × (order n k ≡ m))

abbrev pub EachOddOnce : Type 0
EachOddOnce = (n : ℕ) → Odds n
