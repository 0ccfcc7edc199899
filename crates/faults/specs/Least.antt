-- The one law of refusals: a call answers the least fault that is true of what it was handed, by row and then by place, and none where none is true.
use Rattle.std.specs.Prelude.{◌≡◌, ℕ, ◌<◌, ◌≤◌, Bool, cond, ◌⊎◌, Some, None, Ok, Err, Option, Result}
use Rattle.faults.specs.declared.fault.Place.{Place}
use Rattle.faults.specs.declared.fault.Place.TheVariants.{At, Entry}
use Rattle.faults.specs.declared.fault.Fault.{Fault}
use Rattle.faults.specs.Causes.{row_of, place_of}

-- a place as list and entry, or as its one number
abbrev pub first_of : Place → ℕ
first_of (At p) = p
first_of (Entry l e) = l

abbrev pub second_of : Place → ℕ
second_of (At p) = 0
second_of (Entry l e) = e

-- place p is no later than place q
abbrev pub Before : Place → Place → Type 0
Before p q = (first_of p < first_of q) ⊎ ((first_of p ≡ first_of q) × (second_of p ≤ second_of q))

-- fault f comes no later than g: by row, then by place
abbrev pub NoLater : Fault → Fault → Type 0
NoLater f g = (row_of f < row_of g) ⊎ ((row_of f ≡ row_of g) × Before (place_of f) (place_of g))

-- the answer is the least of the faults that are true, W telling which are
abbrev pub Least : (Fault → Type 0) → Option Fault → Type 0
Least W None = (g : Fault) → W g → ⊥
Least W (Some f) = W f × ((g : Fault) → W g → NoLater f g)

-- why an answer is a refusal, and nothing where it is none
abbrev pub refusal : {X : Type 0} → Result X Fault → Option Fault
refusal (Ok x) = None
refusal (Err f) = Some f

-- the first of two refusals
abbrev pub or_else : Option Fault → Option Fault → Option Fault
or_else (Some f) g = Some f
or_else None g = g

-- a refusal unless a test passes
abbrev pub unless : Bool → Fault → Option Fault
unless b f = cond b None (Some f)

-- an accepted answer with no value, or the refusal
abbrev pub told : Option Fault → Result (Unit {0}) Fault
told None = Ok tt
told (Some f) = Err f
