-- The lists of a kernel's call, each of which has N words.
use Rattle.std.specs.Prelude.{◌≡◌, ℕ, ◌+◌, ◌<◌, cond, List, [], ◌∷◌, length, is_ok, None, Option, Result, ◌==◌, ◌≢◌, slice_index}
use Rattle.faults.specs.declared.fault.Fault.{Fault}
use Rattle.faults.specs.declared.fault.Fault.TheVariants.{Length}
use Rattle.faults.specs.declared.fault.Layer.TheVariants.{Kernel}
use Rattle.faults.specs.Least.{Least, or_else, unless, told}
use Rattle.rings.specs.declared.ring.Ring.{Ring}

-- the first list, counted from `list` on, that has another length than N
abbrev pub wrong_length : ℕ → ℕ → List ℕ → Option Fault
wrong_length N list [] = None
wrong_length N list (l ∷ ls) = or_else (unless (l == N) (Length list Kernel)) (wrong_length N (list + 1) ls)

-- what a call answers to lists of these lengths
abbrev pub answer_to : Ring → List ℕ → Result (Unit {0}) Fault
answer_to r ls = told (wrong_length r.degree 0 ls)

-- what a list holds after a call: what the call makes, or all as it was where it refuses
abbrev pub after : Result (Unit {0}) Fault → List ℕ → List ℕ → List ℕ
after r made old = cond (is_ok r) made old

-- every fault that is true of lists with these lengths, in no order
abbrev pub WrongLengths : ℕ → List ℕ → Fault → Type 0
WrongLengths N ls g = (i : ℕ) × ((i < length ls) × ((g ≡ Length i Kernel) × (slice_index ls i ≢ N)))

-- the first is the least
abbrev pub LengthsLeast : Type 0
LengthsLeast = (N : ℕ) (ls : List ℕ) → Least (WrongLengths N ls) (wrong_length N 0 ls)
