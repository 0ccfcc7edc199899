-- The machine of plain bits: R entries, each a bit or empty, with refusals of its own, row by row of the table of causes.
use Rattle.std.specs.Prelude.{ℕ, ◌+◌, min, Bool, true, false, cond, not, List, [], ◌∷◌, length, Some, None, Option, ◌==◌, nat_le, slice_index, slice_index_or, slice_set}
use Rattle.std.specs.List.{range_with_len}
use Rattle.faults.specs.declared.fault.Fault.{Fault}
use Rattle.faults.specs.declared.fault.Fault.TheVariants.{Length, Register, Empty, CipherWord}
use Rattle.faults.specs.declared.fault.Layer.{Layer}
use Rattle.faults.specs.declared.fault.Layer.TheVariants.{File, Runner}
use Rattle.set.specs.declared.numbers.Numbers.{Numbers}
use Rattle.gate.specs.declared.letter.Letter.{Letter}
use Rattle.gate.specs.Letters.{bit_of}
use Rattle.gate.specs.Lengths.{gate_work}
use Rattle.registers.specs.declared.op.Op.{Op}
use Rattle.registers.specs.declared.op.Op.TheVariants.{Gate, Invert, Copy, Clear}
use Rattle.registers.specs.Registers.{wide}
use Rattle.calls.specs.declared.call.Lent.{Lent}

-- the entries, by register
abbrev pub Entries : Type 0
Entries = List (Option Bool)

-- whether an entry is empty, and the bit of one that is not
abbrev pub no_bit : Option Bool → Bool
no_bit None = true
no_bit (Some b) = false

abbrev pub the_bit : Option Bool → Bool
the_bit None = false
the_bit (Some b) = b

-- the numbers of a list that a test finds wrong
abbrev pub wrong_ones : (ℕ → Bool) → List ℕ → List ℕ
wrong_ones wrong [] = []
wrong_ones wrong (x ∷ xs) = cond (wrong x) (x ∷ wrong_ones wrong xs) (wrong_ones wrong xs)

-- the lowest number of a list that starts with x
abbrev pub lowest : ℕ → List ℕ → ℕ
lowest x [] = x
lowest x (y ∷ ys) = min x (lowest y ys)

-- the fault of the lowest
abbrev pub blamed : (ℕ → Fault) → List ℕ → Option Fault
blamed f [] = None
blamed f (x ∷ xs) = Some (f (lowest x xs))

-- row 7: list i of a part's call has not the right length
abbrev pub row7 : Layer → ℕ → ℕ → ℕ → Option Fault
row7 part i have want = cond (have == want) None (Some (Length i part))

-- row 10: a register is not below R
abbrev pub row10 : ℕ → List ℕ → Option Fault
row10 R xs = blamed Register (wrong_ones (nat_le R) xs)

-- row 11: a register to be used is empty
abbrev pub row11 : Entries → List ℕ → Option Fault
row11 bits xs = blamed Empty (wrong_ones (λ x. no_bit (slice_index_or bits x None)) xs)

-- row 12: a word is not below q
abbrev pub row12 : ℕ → List ℕ → Option Fault
row12 q ws = blamed (λ i. CipherWord i File) (wrong_ones (λ i. nat_le q (slice_index ws i)) (range_with_len 0 (length ws)))

-- the fault of the first row that has one
abbrev pub first_row : List (Option Fault) → Option Fault
first_row [] = None
first_row (None ∷ rows) = first_row rows
first_row (Some f ∷ rows) = Some f

-- the entry of a gate of two entries
abbrev pub gate_bit : Letter → Option Bool → Option Bool → Option Bool
gate_bit l a b = Some (bit_of l (the_bit a) (the_bit b))

-- an operation: the registers that it names and those that must be filled, refused by R and by empty entries
abbrev pub plain_op : ℕ → Entries → Op → Option Fault
plain_op R bits (Gate l x y z) = first_row (row10 R (x ∷ y ∷ z ∷ []) ∷ row11 bits (x ∷ y ∷ []) ∷ [])
plain_op R bits (Invert x z) = first_row (row10 R (x ∷ z ∷ []) ∷ row11 bits (x ∷ []) ∷ [])
plain_op R bits (Copy x z) = first_row (row10 R (x ∷ z ∷ []) ∷ row11 bits (x ∷ []) ∷ [])
plain_op R bits (Clear z) = first_row (row10 R (z ∷ []) ∷ row11 bits (z ∷ []) ∷ [])

-- what it enters
abbrev pub entered : Entries → Op → Entries
entered bits (Gate l x y z) = slice_set bits z (gate_bit l (slice_index_or bits x None) (slice_index_or bits y None))
entered bits (Invert x z) = slice_set bits z (Some (not (the_bit (slice_index_or bits x None))))
entered bits (Copy x z) = slice_set bits z (Some (the_bit (slice_index_or bits x None)))
entered bits (Clear z) = slice_set bits z None

-- placing words, and reading into so many, for n + 1 = w, q and R
abbrev pub plain_place : ℕ → ℕ → ℕ → ℕ → List ℕ → Option Fault
plain_place w q R z ws = first_row (row7 File 0 (length ws) w ∷ row10 R (z ∷ []) ∷ row12 q ws ∷ [])

abbrev pub plain_read : ℕ → ℕ → Entries → ℕ → ℕ → Option Fault
plain_read w R bits x have = first_row (row7 File 0 have w ∷ row10 R (x ∷ []) ∷ row11 bits (x ∷ []) ∷ [])

-- what a call is handed of small memory, work memory and scratch: a run has one word more of each than is right, and lends at most all of it
abbrev pub handed : Numbers → Lent → Lent
handed m lent =
    record { small = min lent.small (wide m + 1); work = min lent.work (gate_work m + 1); scratch = min lent.scratch (m.degree + 1) }

-- an operation as a call: a gate is handed small memory, work memory and scratch, its lists 4 to 6
abbrev pub plain_call : Numbers → ℕ → Lent → Entries → Op → Option Fault
plain_call m R lent bits (Gate l x y z) =
    first_row (row7 File 4 lent.small (wide m) ∷ row7 File 5 lent.work (gate_work m) ∷ row7 File 6 lent.scratch m.degree
    ∷ row10 R (x ∷ y ∷ z ∷ []) ∷ row11 bits (x ∷ y ∷ []) ∷ [])
plain_call m R lent bits (Invert x z) = plain_op R bits (Invert x z)
plain_call m R lent bits (Copy x z) = plain_op R bits (Copy x z)
plain_call m R lent bits (Clear z) = plain_op R bits (Clear z)

-- a list of orders: the same memory, its lists 5 to 7
abbrev pub plain_lists : Numbers → Lent → Option Fault
plain_lists m lent =
    first_row (row7 Runner 5 lent.small (wide m) ∷ row7 Runner 6 lent.work (gate_work m) ∷ row7 Runner 7 lent.scratch m.degree ∷ [])

-- a refused call changes nothing
abbrev pub unless_refused : {A : Type 0} → Option Fault → A → A → A
unless_refused (Some f) old new = old
unless_refused None old new = new

-- what is there after a placing, with the bit that its words are said to hold, and after an operation on register memory alone
abbrev pub bits_place : ℕ → ℕ → ℕ → Entries → ℕ → List ℕ → Bool → Entries
bits_place w q R bits z ws bit = unless_refused (plain_place w q R z ws) bits (slice_set bits z (Some bit))

abbrev pub bits_op : ℕ → Entries → Op → Entries
bits_op R bits op = unless_refused (plain_op R bits op) bits (entered bits op)
