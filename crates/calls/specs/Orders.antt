-- Lists of orders, on any machine that refuses operations and carries them out.
use Rattle.std.specs.Prelude.{◌≡◌, ℕ, ◌+◌, cond, ◌&&◌, List, [], ◌∷◌, ◌++◌, map, length, Some, None, Option, ◌==◌}
use Rattle.faults.specs.declared.fault.Fault.{Fault}
use Rattle.faults.specs.declared.fault.Fault.TheVariants.{Order}
use Rattle.gate.specs.declared.letter.Letter.{Letter}
use Rattle.gate.specs.Letters.{letter_of}
use Rattle.registers.specs.declared.op.Op.{Op}
use Rattle.registers.specs.declared.op.Op.TheVariants.{Gate, Invert, Copy, Clear}

-- an order whose letter is no gate: I inverts, D copies, C clears, and unused numbers are 0
abbrev pub other_order : ℕ → ℕ → ℕ → ℕ → Option Op
other_order l x y z =
    cond (l == 73) (cond (y == 0) (Some (Invert x z)) None)
    (cond (l == 68) (cond (y == 0) (Some (Copy x z)) None)
    (cond (l == 67) (cond (x == 0 && y == 0) (Some (Clear z)) None) None))

abbrev pub gate_order : Option Letter → ℕ → ℕ → ℕ → ℕ → Option Op
gate_order (Some g) l x y z = Some (Gate g x y z)
gate_order None l x y z = other_order l x y z

-- the operation that a letter and three numbers stand for, if any
abbrev pub order_of : ℕ → ℕ → ℕ → ℕ → Option Op
order_of l x y z = gate_order (letter_of l) l x y z

-- four bytes to an order; none stands for an order that is broken off or means nothing
unfoldable pub parsed : List ℕ → List (Option Op)
parsed [] = []
parsed (l ∷ []) = None ∷ []
parsed (l ∷ x ∷ []) = None ∷ []
parsed (l ∷ x ∷ y ∷ []) = None ∷ []
parsed (l ∷ x ∷ y ∷ z ∷ rest) = order_of l x y z ∷ parsed rest

-- what a list of orders leaves: the state, how many ran, and what stopped the list
pub record Ending (S : Type 0) : Type 0 where
  pub state : S
  pub count : ℕ
  pub stop : Option Fault

abbrev pub ending : {S : Type 0} → S → ℕ → Option Fault → Ending S
ending s c f = record { state = s; count = c; stop = f }

-- the ending of an order: its refusal, or what comes after it
abbrev pub onward : {S : Type 0} → Option Fault → S → ℕ → Ending S → Ending S
onward (Some f) s c more = ending s c (Some f)
onward None s c more = more

module _ (S : Type 0) (refuse : S → Op → Option Fault) (carried : S → Op → S) where
  -- the orders from the one numbered c on
  abbrev pub ordered : ℕ → S → List (Option Op) → Ending S
  ordered c s [] = ending s c None
  ordered c s (None ∷ os) = ending s c (Some (Order c))
  ordered c s (Some op ∷ os) = onward (refuse s op) s c (ordered (c + 1) (carried s op) os)

  -- operations carried out as single calls, each accepted, lead from s to t
  abbrev pub AllRan : S → List Op → S → Type 0
  AllRan s [] t = s ≡ t
  AllRan s (op ∷ ops) t = (refuse s op ≡ None) × AllRan (carried s op) ops t

  -- why a list stops in the state s before these orders, of which the first is numbered c
  abbrev pub Stops : S → ℕ → List (Option Op) → Option Fault → Type 0
  Stops s c [] stop = stop ≡ None
  Stops s c (None ∷ os) stop = stop ≡ Some (Order c)
  Stops s c (Some op ∷ os) stop = (f : Fault) × ((refuse s op ≡ Some f) × (stop ≡ Some f))

  -- orders are calls: as many ran as are told, as single calls, and the next one, if there is one, is refused for the answer
  pub record OrdersAreCalls (s : S) (os : List (Option Op)) (e : Ending S) : Type 0 where
    pub ops : List Op
    pub rest : List (Option Op)
    pub whole : os ≡ map (λ op. Some op) ops ++ rest
    pub counted : e.count ≡ length ops
    pub ran : AllRan s ops e.state
    pub stops : Stops e.state e.count rest e.stop
