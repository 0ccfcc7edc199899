-- The limits of the sixteen numbers, one by one.
use Rattle.std.specs.Prelude.{◌≡◌, ℕ, ◌-◌, ◌*◌, ◌/◌, ◌%◌, ◌^◌, ◌<◌, ◌≤◌, Bool, ◌&&◌, ◌⊎◌, Option, ◌==◌}
use Rattle.faults.specs.declared.fault.Fault.{Fault}
use Rattle.faults.specs.declared.fault.Fault.TheVariants.{Field}
use Rattle.faults.specs.Least.{or_else, unless}
use Rattle.words.specs.Powers.{Power, power_within, within}
use Rattle.words.specs.Moduli.{ring_modulus}
use Rattle.set.specs.declared.numbers.Numbers.{Numbers}

-- x lies from low to high
abbrev pub From : ℕ → ℕ → ℕ → Type 0
From low high x = (low ≤ x) × (x ≤ high)

-- x is a power of two from low to high
abbrev pub PowerFrom : ℕ → ℕ → ℕ → Type 0
PowerFrom low high x = Power x × ((low ≤ x) × (x ≤ high))

-- x is an odd modulus of a ring
abbrev pub OddModulus : ℕ → Type 0
OddModulus x = (x % 2 ≡ 1) × ((17 ≤ x) × (x < 2 ^ 31))

-- x is even, from 2 to 512
abbrev pub EvenFrom : ℕ → Type 0
EvenFrom x = (x % 2 ≡ 0) × ((2 ≤ x) × (x ≤ 512))

abbrev pub even_within : ℕ → Bool
even_within x = x % 2 == 0 && within 2 512 x

-- every number within its limits
pub record Limits (n : Numbers) : Type 0 where
  pub degree_ok : PowerFrom 16 1024 n.degree
  pub dimension_ok : EvenFrom n.dimension
  pub small_ok : PowerFrom 32 (2 * n.degree) n.small
  pub modulus_ok : OddModulus n.modulus
  pub root_ok : From 1 (n.modulus - 1) n.root
  pub dropped_ok : PowerFrom 1 65536 n.dropped
  pub base_ok : PowerFrom 2 65536 n.base
  pub digits_ok : From 1 31 n.digits
  pub noise_ok : From 0 1024 n.noise
  pub weight_ok : From 1 n.degree n.weight
  pub ones_ok : From 0 n.dimension n.ones
  pub switch_ok : PowerFrom n.small (2 ^ 20) n.switch
  pub radix_ok : PowerFrom 2 1024 n.radix
  pub places_ok : From 1 20 n.places
  pub jitter_ok : From 0 1024 n.jitter
  pub bound_ok : From 1 (n.small / 16 - 1) n.bound

-- every fault of a limit that is true of sixteen numbers
abbrev pub WrongLimits : Numbers → Fault → Type 0
WrongLimits n g =
    ((g ≡ Field 0) × (PowerFrom 16 1024 n.degree → ⊥))
    ⊎ (((g ≡ Field 1) × (EvenFrom n.dimension → ⊥))
    ⊎ (((g ≡ Field 2) × (PowerFrom 32 (2 * n.degree) n.small → ⊥))
    ⊎ (((g ≡ Field 3) × (OddModulus n.modulus → ⊥))
    ⊎ (((g ≡ Field 4) × (From 1 (n.modulus - 1) n.root → ⊥))
    ⊎ (((g ≡ Field 5) × (PowerFrom 1 65536 n.dropped → ⊥))
    ⊎ (((g ≡ Field 6) × (PowerFrom 2 65536 n.base → ⊥))
    ⊎ (((g ≡ Field 7) × (From 1 31 n.digits → ⊥))
    ⊎ (((g ≡ Field 8) × (From 0 1024 n.noise → ⊥))
    ⊎ (((g ≡ Field 9) × (From 1 n.degree n.weight → ⊥))
    ⊎ (((g ≡ Field 10) × (From 0 n.dimension n.ones → ⊥))
    ⊎ (((g ≡ Field 11) × (PowerFrom n.small (2 ^ 20) n.switch → ⊥))
    ⊎ (((g ≡ Field 12) × (PowerFrom 2 1024 n.radix → ⊥))
    ⊎ (((g ≡ Field 13) × (From 1 20 n.places → ⊥))
    ⊎ (((g ≡ Field 14) × (From 0 1024 n.jitter → ⊥))
    ⊎ ((g ≡ Field 15) × (From 1 (n.small / 16 - 1) n.bound → ⊥))))))))))))))))

-- the first number that is outside its limits: of the ring and the secrets' lengths, of the digits and their noise,
-- of the weights, of the switch and the bound
abbrev pub sizes_broken : Numbers → Option Fault
sizes_broken n =
    or_else (unless (power_within 16 1024 n.degree) (Field 0))
    (or_else (unless (even_within n.dimension) (Field 1))
    (or_else (unless (power_within 32 (2 * n.degree) n.small) (Field 2))
    (or_else (unless (ring_modulus n.modulus) (Field 3))
    (unless (within 1 (n.modulus - 1) n.root) (Field 4)))))

abbrev pub digits_broken : Numbers → Option Fault
digits_broken n =
    or_else (unless (power_within 1 65536 n.dropped) (Field 5))
    (or_else (unless (power_within 2 65536 n.base) (Field 6))
    (or_else (unless (within 1 31 n.digits) (Field 7))
    (unless (within 0 1024 n.noise) (Field 8))))

abbrev pub weights_broken : Numbers → Option Fault
weights_broken n =
    or_else (unless (within 1 n.degree n.weight) (Field 9))
    (unless (within 0 n.dimension n.ones) (Field 10))

abbrev pub switch_broken : Numbers → Option Fault
switch_broken n =
    or_else (unless (power_within n.small (2 ^ 20) n.switch) (Field 11))
    (or_else (unless (power_within 2 1024 n.radix) (Field 12))
    (or_else (unless (within 1 20 n.places) (Field 13))
    (or_else (unless (within 0 1024 n.jitter) (Field 14))
    (unless (within 1 (n.small / 16 - 1) n.bound) (Field 15)))))

unfoldable pub limits_broken : Numbers → Option Fault
limits_broken n = or_else (sizes_broken n) (or_else (digits_broken n) (or_else (weights_broken n) (switch_broken n)))
