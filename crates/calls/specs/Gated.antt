-- What is asked of gates, letter by letter, for those letters alone that calls name.
use Rattle.std.specs.Prelude.{◌≡◌, ℕ, Bool, List, [], ◌∷◌, length, Some, None, Option}
use Rattle.set.specs.declared.numbers.Numbers.{Numbers}
use Rattle.gate.specs.declared.letter.Letter.{Letter}
use Rattle.gate.specs.Letters.{bit_of}
use Rattle.registers.specs.declared.op.Op.{Op}
use Rattle.registers.specs.declared.op.Op.TheVariants.{Gate, Invert, Copy, Clear}
use Rattle.registers.specs.Registers.{wide}
use Rattle.registers.specs.Steps.{Gates}
use Rattle.calls.specs.Orders.{parsed}
use Rattle.calls.specs.Calls.{Asked, placing, reading, doing, ordering}

-- the letter of a gate; of other operations nothing is asked
abbrev pub OnGate : (Letter → Type 0) → Op → Type 0
OnGate P (Gate l x y z) = P l
OnGate P (Invert x z) = Unit {0}
OnGate P (Copy x z) = Unit {0}
OnGate P (Clear z) = Unit {0}

-- orders, up to the first that means nothing
abbrev pub OnOrders : (Letter → Type 0) → List (Option Op) → Type 0
OnOrders P [] = Unit {0}
OnOrders P (None ∷ os) = Unit {0}
OnOrders P (Some op ∷ os) = OnGate P op × OnOrders P os

abbrev pub OnCall : (Letter → Type 0) → Asked → Type 0
OnCall P (placing z ws) = Unit {0}
OnCall P (reading x have) = Unit {0}
OnCall P (doing o lent) = OnGate P o
OnCall P (ordering bytes lent) = OnOrders P (parsed bytes)

abbrev pub OnCalls : (Letter → Type 0) → List Asked → Type 0
OnCalls P [] = Unit {0}
OnCalls P (c ∷ cs) = OnCall P c × OnCalls P cs

-- no gate is called, and none is ordered before the first order that means nothing
abbrev pub NoGates : List Asked → Type 0
NoGates calls = OnCalls (λ l. ⊥) calls

-- from n + 1 words and n + 1 words a gate makes n + 1 words
abbrev pub LongGate : Gates → Numbers → Letter → Type 0
LongGate gates m l = (xs ys : List ℕ) → length xs ≡ wide m → length ys ≡ wide m → length (gates l xs ys) ≡ wide m

-- and from words of two bits words of its own bit, in one sense of what words of a bit are
abbrev pub RightGate : Gates → Numbers → (Bool → List ℕ → Type 0) → Letter → Type 0
RightGate gates m P l =
    LongGate gates m l
    × ((xs ys : List ℕ) (a b : Bool) → length xs ≡ wide m → length ys ≡ wide m → P a xs → P b ys → P (bit_of l a b) (gates l xs ys))
