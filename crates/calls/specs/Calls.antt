-- The calls of a run on a register file: what each answers, reads and leaves.
use Rattle.std.specs.Prelude.{ℕ, ◌+◌, ◌*◌, min, List, [], ◌∷◌, ◌++◌, length, replicate, Some, None, Option}
use Rattle.faults.specs.declared.fault.Fault.{Fault}
use Rattle.faults.specs.declared.fault.Layer.TheVariants.{Runner}
use Rattle.faults.specs.Least.{or_else}
use Rattle.set.specs.declared.numbers.Numbers.{Numbers}
use Rattle.gate.specs.Lengths.{start_length, selectors_length, rows_length}
use Rattle.registers.specs.declared.lists.Lists.{Lists}
use Rattle.registers.specs.declared.op.Op.{Op}
use Rattle.registers.specs.declared.op.Op as op
use Rattle.registers.specs.Registers.{wide}
use Rattle.registers.specs.Marks.{State}
use Rattle.registers.specs.Steps.{Gates, either, bad_list, bad_keys, bad_work, lists_of, refuse_place, next_place, refuse_read, words_read, refuse_op, refuse_gate, done_op}
use Rattle.calls.specs.declared.call.Lent.{Lent}
use Rattle.calls.specs.declared.call.Call.{Call}
use Rattle.calls.specs.declared.call.Call.TheVariants.{Place, Read, Gate, Invert, Copy, Clear, Orders}
use Rattle.calls.specs.declared.answer.Answer.{Answer}
use Rattle.calls.specs.declared.answer.Answer.TheVariants.{Ran}
use Rattle.calls.specs.Answers.{verdict}
use Rattle.calls.specs.Orders.{Ending, ending, parsed, ordered}
use Rattle.calls.specs.Plain.{handed, unless_refused}

-- a call with what it is handed: a register and words, a register and the length of the memory for its words,
-- an operation, or the bytes of orders; the last two with how much work memory they are lent
pub data Asked : Type 0 where
  placing : ℕ → List ℕ → Asked
  reading : ℕ → ℕ → Asked
  doing : Op → Lent → Asked
  ordering : List ℕ → Lent → Asked

-- an operation that takes no work memory
abbrev pub none : Lent
none = record { small = 0; work = 0; scratch = 0 }

abbrev pub asked : Call → Asked
asked (Place z words) = placing z words.now
asked (Read x len) = reading x len
asked (Gate letter x y z lent) = doing (op.Op.Gate letter x y z) lent
asked (Invert x z) = doing (op.Op.Invert x z) none
asked (Copy x z) = doing (op.Op.Copy x z) none
asked (Clear z) = doing (op.Op.Clear z) none
asked (Orders orders lent) = ordering orders.now lent

-- the lists of a call in a run: key memory is right, and of work memory it is handed what the run lends
abbrev pub lent_lists : Numbers → ℕ → Lent → Lists
lent_lists m count lent =
    record {
      start = start_length m;
      selectors = selectors_length m count;
      rows = rows_length m;
      small = (handed m lent).small;
      work = (handed m lent).work;
      scratch = (handed m lent).scratch;
    }

-- the lengths of lists that are handed
abbrev pub handed_lists : List ℕ → List ℕ → List ℕ → List ℕ → List ℕ → List ℕ → Lists
handed_lists start selectors rows small work scratch = lists_of start selectors rows small work scratch

-- an operation that is handed these lists
abbrev pub refuse_by : Numbers → ℕ → Lists → State → Op → Option Fault
refuse_by m count lists s (op.Op.Gate l x y z) = refuse_gate m count lists s x y z
refuse_by m count lists s (op.Op.Invert x z) = refuse_op m s (op.Op.Invert x z)
refuse_by m count lists s (op.Op.Copy x z) = refuse_op m s (op.Op.Copy x z)
refuse_by m count lists s (op.Op.Clear z) = refuse_op m s (op.Op.Clear z)

-- the lists of the runner: orders of any length, key memory, register memory, work memory
abbrev pub refuse_orders : Numbers → ℕ → Lists → State → Option Fault
refuse_orders m count l s =
    or_else (bad_keys Runner 1 m count l) (or_else (bad_list Runner 4 (length s.words) (s.count * wide m)) (bad_work Runner 5 0 m l))

-- orders one after the other, each as the call that it stands for
unfoldable pub orders_of : Gates → Numbers → ℕ → Lists → State → List ℕ → Ending State
orders_of gates m count lists s bytes = ordered State (refuse_by m count lists) (done_op gates m) 0 s (parsed bytes)

-- the runner: its lists are checked once, before the first order
abbrev pub orders_end : Gates → Numbers → ℕ → Lists → State → List ℕ → Ending State
orders_end gates m count lists s bytes =
    unless_refused (refuse_orders m count lists s) (ending s 0 (refuse_orders m count lists s)) (orders_of gates m count lists s bytes)

abbrev pub stopped : Option Fault → {S : Type 0} → Ending S → Answer
stopped (Some f) e = Ran (record { orders = 0; stop = Some f })
stopped None e = Ran (record { orders = e.count; stop = e.stop })

module _ (gates : Gates) (m : Numbers) (count : ℕ) where
  -- the answer to a call
  abbrev pub answer : State → Asked → Answer
  answer s (placing z ws) = verdict (refuse_place m s z ws)
  answer s (reading x have) = verdict (refuse_read m s x (min have (wide m + 1)))
  answer s (doing o lent) = verdict (refuse_by m count (lent_lists m count lent) s o)
  answer s (ordering bytes lent) =
      stopped (refuse_orders m count (lent_lists m count lent) s) (orders_of gates m count (lent_lists m count lent) s bytes)

  -- what it leaves
  abbrev pub next : State → Asked → State
  next s (placing z ws) = next_place m s z ws
  next s (reading x have) = s
  next s (doing o lent) = either (refuse_by m count (lent_lists m count lent) s o) s (done_op gates m s o)
  next s (ordering bytes lent) =
      either (refuse_orders m count (lent_lists m count lent) s) s (orders_of gates m count (lent_lists m count lent) s bytes).state

  -- its slot of n + 2 words: the words read and a 0, or all 0
  abbrev pub slot : State → Asked → List ℕ
  slot s (placing z ws) = replicate (wide m + 1) 0
  slot s (reading x have) =
      either (refuse_read m s x (min have (wide m + 1))) (replicate (wide m + 1) 0) (words_read m s x ++ 0 ∷ [])
  slot s (doing o lent) = replicate (wide m + 1) 0
  slot s (ordering bytes lent) = replicate (wide m + 1) 0
