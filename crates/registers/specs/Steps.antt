-- One step of each call: why it is refused, what it leaves, and what is read.
use Rattle.std.specs.Prelude.{ℕ, ◌+◌, ◌*◌, Bool, true, false, cond, ◌&&◌, List, [], ◌∷◌, length, set, replicate, Some, None, Option, ◌==◌, nat_le, nat_lt, slice_index_or, slice_set}
use Rattle.faults.specs.declared.fault.Fault.{Fault}
use Rattle.faults.specs.declared.fault.Fault.TheVariants.{Length, Register, Empty, CipherWord}
use Rattle.faults.specs.declared.fault.Layer.{Layer}
use Rattle.faults.specs.declared.fault.Layer.TheVariants.{File}
use Rattle.faults.specs.Least.{or_else, unless}
use Rattle.rings.specs.declared.ring.Ring.{Ring}
use Rattle.set.specs.declared.checked.Set.{Set}
use Rattle.set.specs.declared.numbers.Numbers.{Numbers}
use Rattle.set.specs.declared.within.Within.{Within}
use Rattle.gate.specs.declared.letter.Letter.{Letter}
use Rattle.gate.specs.Gates.{gate_of}
use Rattle.gate.specs.Keys.{start_of, selectors_of}
use Rattle.gate.specs.Lengths.{start_length, selectors_length, rows_length, gate_work}
use Rattle.registers.specs.declared.lists.Lists.{Lists}
use Rattle.registers.specs.declared.op.Op.{Op}
use Rattle.registers.specs.declared.op.Op.TheVariants.{Gate, Invert, Copy, Clear}
use Rattle.registers.specs.Registers.{numbers_of, wide, row_at, put_row, remainders, opposite, first_high}
use Rattle.registers.specs.Marks.{State}

-- as it was if refused, and else anew
abbrev pub either : {A : Type 0} → Option Fault → A → A → A
either None old new = new
either (Some f) old new = old

-- the smaller of two numbers, where there are any
abbrev pub lesser : Option ℕ → Option ℕ → Option ℕ
lesser a None = a
lesser None (Some b) = Some b
lesser (Some a) (Some b) = Some (cond (nat_lt a b) a b)

-- a register that is not below R, or that is empty
abbrev pub outside : ℕ → ℕ → Option ℕ
outside count x = cond (nat_lt x count) None (Some x)

abbrev pub vacant : List Bool → ℕ → Option ℕ
vacant marks x = cond (slice_index_or marks x false) None (Some x)

-- the smallest of several, in whatever order they come
abbrev pub outsides : ℕ → List ℕ → Option ℕ
outsides count [] = None
outsides count (x ∷ xs) = lesser (outside count x) (outsides count xs)

abbrev pub vacants : List Bool → List ℕ → Option ℕ
vacants marks [] = None
vacants marks (x ∷ xs) = lesser (vacant marks x) (vacants marks xs)

-- the fault of a number, where there is one
abbrev pub fault_at : (ℕ → Fault) → Option ℕ → Option Fault
fault_at f None = None
fault_at f (Some x) = Some (f x)

-- list i of a part's call has not the right length
abbrev pub bad_list : Layer → ℕ → ℕ → ℕ → Option Fault
bad_list part i have want = unless (have == want) (Length i part)

-- key memory, as three lists from i on
abbrev pub bad_keys : Layer → ℕ → Numbers → ℕ → Lists → Option Fault
bad_keys part i m count l =
    or_else (bad_list part i l.start (start_length m))
    (or_else (bad_list part (i + 1) l.selectors (selectors_length m count)) (bad_list part (i + 2) l.rows (rows_length m)))

-- small memory, work memory and scratch, as three lists from i on, each with so many words more than a gate takes
abbrev pub bad_work : Layer → ℕ → ℕ → Numbers → Lists → Option Fault
bad_work part i more m l =
    or_else (bad_list part i l.small (wide m + more))
    (or_else (bad_list part (i + 1) l.work (gate_work m + more)) (bad_list part (i + 2) l.scratch (m.degree + more)))

-- a list that has not the right length
abbrev pub bad_length : ℕ → ℕ → ℕ → Option Fault
bad_length list have want = bad_list File list have want

-- register memory as the list of this number
abbrev pub bad_memory : ℕ → Numbers → State → Option Fault
bad_memory list m s = bad_length list (length s.words) (s.count * wide m)

-- the registers that a call names, before those that must be filled
abbrev pub bad_registers : State → List ℕ → List ℕ → Option Fault
bad_registers s names uses = or_else (fault_at Register (outsides s.count names)) (fault_at Empty (vacants s.marks uses))

-- making a file of so many registers, with memory of so many words
abbrev pub refuse_new : Numbers → ℕ → ℕ → Option Fault
refuse_new m count have =
    or_else (bad_length 0 have (count * wide m))
    (unless (nat_le 1 count && nat_le count 64) (Register count))

abbrev pub fresh : Numbers → ℕ → State
fresh m count = record { count = count; marks = replicate count false; words = replicate (count * wide m) 0 }

-- register z written and marked
abbrev pub written : Numbers → State → ℕ → List ℕ → State
written m s z new = record { count = s.count; marks = slice_set s.marks z true; words = put_row m z s.words new }

-- placing words in z
abbrev pub refuse_place : Numbers → State → ℕ → List ℕ → Option Fault
refuse_place m s z new =
    or_else (bad_length 0 (length new) (wide m))
    (or_else (bad_memory 1 m s)
    (or_else (fault_at Register (outsides s.count (z ∷ [])))
    (fault_at (λ i. CipherWord i File) (first_high m.small 0 new))))

abbrev pub done_place : Numbers → State → ℕ → List ℕ → State
done_place m s z new = written m s z new

abbrev pub next_place : Numbers → State → ℕ → List ℕ → State
next_place m s z new = either (refuse_place m s z new) s (done_place m s z new)

-- reading x into a list of so many words
abbrev pub refuse_read : Numbers → State → ℕ → ℕ → Option Fault
refuse_read m s x have =
    or_else (bad_length 0 have (wide m)) (or_else (bad_memory 1 m s) (bad_registers s (x ∷ []) (x ∷ [])))

abbrev pub words_read : Numbers → State → ℕ → List ℕ
words_read m s x = remainders m (row_at (wide m) x s.words)

abbrev pub read_out : Numbers → State → ℕ → List ℕ → List ℕ
read_out m s x out = either (refuse_read m s x (length out)) out (words_read m s x)

-- an operation: the registers that it names, and those of them that must be filled
abbrev pub named : Op → List ℕ
named (Gate l x y z) = x ∷ y ∷ z ∷ []
named (Invert x z) = x ∷ z ∷ []
named (Copy x z) = x ∷ z ∷ []
named (Clear z) = z ∷ []

abbrev pub used : Op → List ℕ
used (Gate l x y z) = x ∷ y ∷ []
used (Invert x z) = x ∷ []
used (Copy x z) = x ∷ []
used (Clear z) = z ∷ []

-- an operation that is handed register memory alone
abbrev pub refuse_op : Numbers → State → Op → Option Fault
refuse_op m s op = or_else (bad_memory 0 m s) (bad_registers s (named op) (used op))

-- the lengths of the lists that a gate is handed besides register memory
abbrev pub lists_of : List ℕ → List ℕ → List ℕ → List ℕ → List ℕ → List ℕ → Lists
lists_of start selectors rows small work scratch =
    record { start = length start; selectors = length selectors; rows = length rows; small = length small; work = length work; scratch = length scratch }

-- the lists of a gate, for a sweep that takes so many selectors
abbrev pub gate_lists : Numbers → ℕ → Lists → State → Option Fault
gate_lists m count l s =
    or_else (bad_length 0 l.start (start_length m))
    (or_else (bad_length 1 l.selectors (selectors_length m count))
    (or_else (bad_length 2 l.rows (rows_length m))
    (or_else (bad_memory 3 m s)
    (or_else (bad_length 4 l.small (wide m))
    (or_else (bad_length 5 l.work (gate_work m))
    (bad_length 6 l.scratch m.degree))))))

abbrev pub refuse_gate : Numbers → ℕ → Lists → State → ℕ → ℕ → ℕ → Option Fault
refuse_gate m count l s x y z = or_else (gate_lists m count l s) (bad_registers s (x ∷ y ∷ z ∷ []) (x ∷ y ∷ []))

-- the words of a gate, from those of its letter and of two ciphertexts
abbrev pub Gates : Type 0
Gates = Letter → List ℕ → List ℕ → List ℕ

-- those of a sweep, over the polynomials that key memory reads as
abbrev pub gates_by : (Numbers → List ℕ → List (List ℕ) → List ℕ → List ℕ) → (Ring → List ℕ → List ℕ) → (Within → ℕ) → Set → List ℕ → List ℕ → List ℕ → Gates
gates_by defined reads count set start selectors rows l xs ys =
    gate_of defined (numbers_of set) l (start_of reads set start) (selectors_of reads count set selectors) rows xs ys

-- what an accepted operation leaves
abbrev pub done_gate : Gates → Numbers → State → Letter → ℕ → ℕ → ℕ → State
done_gate gates m s l x y z = written m s z (gates l (row_at (wide m) x s.words) (row_at (wide m) y s.words))

abbrev pub done_invert : Numbers → State → ℕ → ℕ → State
done_invert m s x z = written m s z (opposite m (row_at (wide m) x s.words))

abbrev pub done_copy : Numbers → State → ℕ → ℕ → State
done_copy m s x z = written m s z (remainders m (row_at (wide m) x s.words))

abbrev pub done_clear : State → ℕ → State
done_clear s z = record { count = s.count; marks = slice_set s.marks z false; words = s.words }

abbrev pub done_op : Gates → Numbers → State → Op → State
done_op gates m s (Gate l x y z) = done_gate gates m s l x y z
done_op gates m s (Invert x z) = done_invert m s x z
done_op gates m s (Copy x z) = done_copy m s x z
done_op gates m s (Clear z) = done_clear s z

-- what each call leaves
abbrev pub next_gate : Gates → Numbers → ℕ → Lists → State → Letter → ℕ → ℕ → ℕ → State
next_gate gates m count lists s l x y z = either (refuse_gate m count lists s x y z) s (done_gate gates m s l x y z)

abbrev pub next_invert : Numbers → State → ℕ → ℕ → State
next_invert m s x z = either (refuse_op m s (Invert x z)) s (done_invert m s x z)

abbrev pub next_copy : Numbers → State → ℕ → ℕ → State
next_copy m s x z = either (refuse_op m s (Copy x z)) s (done_copy m s x z)

abbrev pub next_clear : Numbers → State → ℕ → State
next_clear m s z = either (refuse_op m s (Clear z)) s (done_clear s z)
