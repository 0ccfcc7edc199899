-- Moduli that can be handed alone: that of a ring, or one of the switch.
use Rattle.std.specs.Prelude.{◌≡◌, ℕ, ◌-◌, ◌%◌, ◌^◌, ◌<◌, ◌≤◌, Bool, cond, ◌&&◌, ◌⊎◌, Option, ◌==◌}
use Rattle.faults.specs.declared.fault.Fault.{Fault}
use Rattle.faults.specs.declared.fault.Fault.TheVariants.{Field}
use Rattle.faults.specs.Least.{unless}
use Rattle.words.specs.Powers.{Power, power_within, within}

-- Q: odd, from 17 to 2^31 - 1
abbrev pub ring_modulus : ℕ → Bool
ring_modulus x = x % 2 == 1 && within 17 (2 ^ 31 - 1) x

-- M or q alone: a power of two from 32 to 2^20
abbrev pub switch_modulus : ℕ → Bool
switch_modulus x = power_within 32 (2 ^ 20) x

-- why a number is no modulus: an odd one is asked as Q, an even one as M
abbrev pub modulus_broken : ℕ → Option Fault
modulus_broken x = cond (x % 2 == 1) (unless (within 17 (2 ^ 31 - 1) x) (Field 3)) (unless (switch_modulus x) (Field 11))

-- what is wrong with it, in the words of the rules
abbrev pub WrongModulus : ℕ → Fault → Type 0
WrongModulus x g =
    ((g ≡ Field 3) × ((x % 2 ≡ 1) × ((x < 17) ⊎ (2 ^ 31 ≤ x))))
    ⊎ ((g ≡ Field 11) × ((x % 2 ≡ 0) × (Power x × ((32 ≤ x) × (x ≤ 2 ^ 20)) → ⊥)))
