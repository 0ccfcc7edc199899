-- Which faults are true of a call, in the words of the rules.
use Rattle.std.specs.Prelude.{◌≡◌, ℕ, ◌*◌, ◌<◌, ◌≤◌, false, ◌⊎◌, List, [], ◌∷◌, length, ◌≢◌, slice_index, slice_index_or}
use Rattle.faults.specs.declared.fault.Fault.{Fault}
use Rattle.faults.specs.declared.fault.Fault.TheVariants.{Length, Register, Empty, CipherWord}
use Rattle.faults.specs.declared.fault.Layer.TheVariants.{File}
use Rattle.set.specs.declared.numbers.Numbers.{Numbers}
use Rattle.registers.specs.declared.op.Op.{Op}
use Rattle.registers.specs.Registers.{wide}
use Rattle.registers.specs.Marks.{State}
use Rattle.faults.specs.Least.{Least}
use Rattle.gate.specs.Lengths.{start_length, selectors_length, rows_length, gate_work}
use Rattle.registers.specs.declared.lists.Lists.{Lists}
use Rattle.registers.specs.Steps.{named, used, refuse_new, refuse_place, refuse_read, refuse_op, refuse_gate}

abbrev pub Among : ℕ → List ℕ → Type 0
Among x [] = ⊥
Among x (y ∷ ys) = (x ≡ y) ⊎ Among x ys

-- list i has another length than it should
abbrev pub WrongLength : ℕ → ℕ → ℕ → Fault → Type 0
WrongLength i have want g = (g ≡ Length i File) × (have ≢ want)

-- one of these registers is not below R
abbrev pub WrongRegister : State → List ℕ → Fault → Type 0
WrongRegister s names g = (x : ℕ) × ((g ≡ Register x) × (Among x names × (s.count ≤ x)))

-- one of these registers has no mark
abbrev pub WrongEmpty : State → List ℕ → Fault → Type 0
WrongEmpty s uses g = (x : ℕ) × ((g ≡ Empty x) × (Among x uses × (slice_index_or s.marks x false ≡ false)))

-- a word of these is not below q
abbrev pub WrongWord : ℕ → List ℕ → Fault → Type 0
WrongWord q new g = (i : ℕ) × ((g ≡ CipherWord i File) × ((i < length new) × (q ≤ slice_index new i)))

abbrev pub WrongNew : Numbers → ℕ → ℕ → Fault → Type 0
WrongNew m count have g =
    WrongLength 0 have (count * wide m) g ⊎ ((g ≡ Register count) × (((1 ≤ count) × (count ≤ 64)) → ⊥))

abbrev pub WrongPlace : Numbers → State → ℕ → List ℕ → Fault → Type 0
WrongPlace m s z new g =
    WrongLength 0 (length new) (wide m) g
    ⊎ (WrongLength 1 (length s.words) (s.count * wide m) g
    ⊎ (WrongRegister s (z ∷ []) g
    ⊎ WrongWord m.small new g))

abbrev pub WrongRead : Numbers → State → ℕ → ℕ → Fault → Type 0
WrongRead m s x have g =
    WrongLength 0 have (wide m) g
    ⊎ (WrongLength 1 (length s.words) (s.count * wide m) g
    ⊎ (WrongRegister s (x ∷ []) g
    ⊎ WrongEmpty s (x ∷ []) g))

abbrev pub WrongOp : Numbers → State → Op → Fault → Type 0
WrongOp m s op g =
    WrongLength 0 (length s.words) (s.count * wide m) g
    ⊎ (WrongRegister s (named op) g
    ⊎ WrongEmpty s (used op) g)

abbrev pub WrongGate : Numbers → ℕ → Lists → State → ℕ → ℕ → ℕ → Fault → Type 0
WrongGate m count l s x y z g =
    WrongLength 0 l.start (start_length m) g
    ⊎ (WrongLength 1 l.selectors (selectors_length m count) g
    ⊎ (WrongLength 2 l.rows (rows_length m) g
    ⊎ (WrongLength 3 (length s.words) (s.count * wide m) g
    ⊎ (WrongLength 4 l.small (wide m) g
    ⊎ (WrongLength 5 l.work (gate_work m) g
    ⊎ (WrongLength 6 l.scratch m.degree g
    ⊎ (WrongRegister s (x ∷ y ∷ z ∷ []) g
    ⊎ WrongEmpty s (x ∷ y ∷ []) g)))))))

-- the law of each call: what it answers is the least of these faults, by row and then by place, and none where none is true
abbrev pub LeastNew : Numbers → ℕ → ℕ → Type 0
LeastNew m count have = Least (WrongNew m count have) (refuse_new m count have)

abbrev pub LeastPlace : Numbers → State → ℕ → List ℕ → Type 0
LeastPlace m s z new = Least (WrongPlace m s z new) (refuse_place m s z new)

abbrev pub LeastRead : Numbers → State → ℕ → ℕ → Type 0
LeastRead m s x have = Least (WrongRead m s x have) (refuse_read m s x have)

abbrev pub LeastOp : Numbers → State → Op → Type 0
LeastOp m s op = Least (WrongOp m s op) (refuse_op m s op)

abbrev pub LeastGate : Numbers → ℕ → Lists → State → ℕ → ℕ → ℕ → Type 0
LeastGate m count l s x y z = Least (WrongGate m count l s x y z) (refuse_gate m count l s x y z)
