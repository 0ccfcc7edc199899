-- Single and paired sweeps, step by step.
use Rattle.std.specs.Prelude.{ℕ, zero, suc, ◌+◌, ◌*◌, ◌/◌, ◌%◌, List, ℤ, pos, ◌-ℤ◌, ◌*ℤ◌, slice_index}
use Rattle.algebra.specs.Polys.{one, scale}
use Rattle.algebra.specs.Sweeps.{stepped, paired}
use Rattle.algebra.specs.Words.{coeffs, words}
use Rattle.set.specs.declared.numbers.Numbers.{Numbers}
use Rattle.set.specs.declared.within.Within.{Within}
use Rattle.sweeps.specs.declared.paired.Part.{Part}
use Rattle.sweeps.specs.declared.paired.Part.TheVariants.{Both, First, Second}
use Rattle.sweeps.specs.Fit.{entries}
use Rattle.sweeps.specs.External.{taken_by}
use Rattle.sweeps.specs.Meaning.{turns}

-- step i of a single sweep: old + (Y^e - 1) (old taken by selector i)
unfoldable pub single_step : Numbers → List (List ℕ) → ℕ → ℕ → List ℕ → List ℕ
single_step n keys i e acc =
    words n.degree n.modulus (stepped n.degree (turns n e) (taken_by n keys i acc) (coeffs acc))

-- the first steps in turn, and all of them
unfoldable pub single_steps : Numbers → List ℕ → List (List ℕ) → ℕ → List ℕ → List ℕ
single_steps n exponents keys zero acc = acc
single_steps n exponents keys (suc i) acc = single_step n keys i (slice_index exponents i) (single_steps n exponents keys i acc)

unfoldable pub single_run : Numbers → List ℕ → List (List ℕ) → List ℕ → List ℕ
single_run n exponents keys acc = single_steps n exponents keys n.dimension acc

-- step i of a paired sweep, for the exponents a and b: old + (Y^(a + b) - 1) (old taken by selector 3i)
-- + (Y^a - 1) (old taken by selector 3i + 1) + (Y^b - 1) (old taken by selector 3i + 2)
unfoldable pub paired_step : Numbers → List (List ℕ) → ℕ → ℕ → ℕ → List ℕ → List ℕ
paired_step n keys i a b acc =
    words n.degree n.modulus (paired n.degree (turns n a) (turns n b)
    (taken_by n keys (3 * i) acc) (taken_by n keys (3 * i + 1) acc) (taken_by n keys (3 * i + 2) acc) (coeffs acc))

unfoldable pub paired_steps : Numbers → List ℕ → List (List ℕ) → ℕ → List ℕ → List ℕ
paired_steps n exponents keys zero acc = acc
paired_steps n exponents keys (suc i) acc =
    paired_step n keys i (slice_index exponents (2 * i)) (slice_index exponents (2 * i + 1)) (paired_steps n exponents keys i acc)

unfoldable pub paired_run : Numbers → List ℕ → List (List ℕ) → List ℕ → List ℕ
paired_run n exponents keys acc = paired_steps n exponents keys (n.dimension / 2) acc

-- a constant polynomial, as words
unfoldable pub constant : Numbers → ℤ → List ℕ
constant n z = words n.degree n.modulus (scale z one)

-- the message of selector j: s_j
abbrev pub single_message : Within → List ℤ → ℕ → List ℕ
single_message w s j = constant w.numbers (entries s j)

-- of the three selectors of a pair s, t: s t, s (1 - t), t (1 - s)
abbrev pub pair_part : ℕ → ℤ → ℤ → ℤ
pair_part zero s t = s *ℤ t
pair_part (suc zero) s t = s *ℤ (pos 1 -ℤ t)
pair_part (suc (suc k)) s t = t *ℤ (pos 1 -ℤ s)

-- a selector by its place among the three of its pair
abbrev pub number_of : Part → ℕ
number_of Both = 0
number_of First = 1
number_of Second = 2

abbrev pub paired_message : Within → List ℤ → ℕ → List ℕ
paired_message w s j = constant w.numbers (pair_part (j % 3) (entries s (2 * (j / 3))) (entries s (2 * (j / 3) + 1)))
