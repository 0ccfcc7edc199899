-- Runs of lists of calls: on the register file, and on the machine of plain bits.
use Rattle.std.specs.Prelude.{◌≡◌, ℕ, ◌+◌, ◌*◌, ◌≤◌, min, Bool, ◌&&◌, ◌⊎◌, List, [], ◌∷◌, ◌++◌, Option, ◌≢◌, nat_le}
use Rattle.faults.specs.declared.fault.Fault.{Fault}
use Rattle.faults.specs.declared.fault.Fault.TheVariants.{Length, Register}
use Rattle.faults.specs.declared.fault.Layer.TheVariants.{Runs}
use Rattle.faults.specs.Least.{Least, or_else, unless}
use Rattle.set.specs.declared.numbers.Numbers.{Numbers}
use Rattle.gate.specs.Lengths.{start_length, selectors_length, rows_length, gate_work}
use Rattle.registers.specs.declared.file.File.{File}
use Rattle.registers.specs.declared.lists.Lists.{Lists}
use Rattle.registers.specs.Registers.{wide}
use Rattle.registers.specs.Marks.{State, filled}
use Rattle.registers.specs.Steps.{Gates, fresh, bad_list, bad_keys, bad_work}
use Rattle.calls.specs.declared.answer.Answer.{Answer}
use Rattle.calls.specs.Answers.{verdict}
use Rattle.calls.specs.Orders.{parsed, ordered}
use Rattle.calls.specs.Plain.{Entries, handed, plain_place, plain_read, plain_op, plain_call, plain_lists, entered, unless_refused, bits_place}
use Rattle.calls.specs.Calls.{Asked, placing, reading, doing, ordering, stopped, answer, next, slot}

-- what a run gives: an answer and a slot of read words for each call, the marks and the register words at its end
pub record Outcome : Type 0 where
  pub answers : List Answer
  pub reads : List ℕ
  pub marks : List Bool
  pub words : List ℕ

module _ (gates : Gates) (m : Numbers) (count : ℕ) where
  unfoldable pub answers : State → List Asked → List Answer
  answers s [] = []
  answers s (c ∷ cs) = answer gates m count s c ∷ answers (next gates m count s c) cs

  unfoldable pub slots : State → List Asked → List ℕ
  slots s [] = []
  slots s (c ∷ cs) = slot gates m count s c ++ slots (next gates m count s c) cs

  unfoldable pub left : State → List Asked → State
  left s [] = s
  left s (c ∷ cs) = left (next gates m count s c) cs

  -- the run of a list of calls on a new file of R registers
  abbrev pub run_of : ℕ → List Asked → Outcome
  run_of R cs =
      record {
        answers = answers (fresh m R) cs;
        reads = slots (fresh m R) cs;
        marks = (left (fresh m R) cs).marks;
        words = (left (fresh m R) cs).words;
      }

-- the lists of a run: calls of any number, an answer and n + 2 read words for each, key memory, register memory, and one word more of work memory than is right; then R
abbrev pub run_lists : Numbers → ℕ → ℕ → ℕ → ℕ → ℕ → ℕ → Lists → Option Fault
run_lists m count R calls got reads regs l =
    or_else (bad_list Runs 1 got calls)
    (or_else (bad_list Runs 2 reads (calls * (wide m + 1)))
    (or_else (bad_keys Runs 3 m count l)
    (or_else (bad_list Runs 6 regs (R * wide m)) (bad_work Runs 7 1 m l))))

abbrev pub refuse_run : Numbers → ℕ → ℕ → ℕ → ℕ → ℕ → ℕ → Lists → Option Fault
refuse_run m count R calls got reads regs l =
    or_else (run_lists m count R calls got reads regs l) (unless (nat_le 1 R && nat_le R 64) (Register R))

-- every fault that is true of what a run is handed, in no order
abbrev pub WrongList : ℕ → ℕ → ℕ → Fault → Type 0
WrongList i have want g = (g ≡ Length i Runs) × (have ≢ want)

abbrev pub WrongRun : Numbers → ℕ → ℕ → ℕ → ℕ → ℕ → ℕ → Lists → Fault → Type 0
WrongRun m count R calls got reads regs l g =
    WrongList 1 got calls g
    ⊎ (WrongList 2 reads (calls * (wide m + 1)) g
    ⊎ (WrongList 3 l.start (start_length m) g
    ⊎ (WrongList 4 l.selectors (selectors_length m count) g
    ⊎ (WrongList 5 l.rows (rows_length m) g
    ⊎ (WrongList 6 regs (R * wide m) g
    ⊎ (WrongList 7 l.small (wide m + 1) g
    ⊎ (WrongList 8 l.work (gate_work m + 1) g
    ⊎ (WrongList 9 l.scratch (m.degree + 1) g
    ⊎ ((g ≡ Register R) × (((1 ≤ R) × (R ≤ 64)) → ⊥))))))))))

abbrev pub LeastRun : Numbers → ℕ → ℕ → ℕ → ℕ → ℕ → ℕ → Lists → Type 0
LeastRun m count R calls got reads regs l = Least (WrongRun m count R calls got reads regs l) (refuse_run m count R calls got reads regs l)

-- what is there after a run
abbrev pub outcome_of : File → List ℕ → List Answer → List ℕ → Outcome
outcome_of file words got reads = record { answers = got; reads = reads; marks = filled file; words = words }

-- the machine of plain bits, told the bit of the words of a ciphertext
module _ (bit_of : List ℕ → Bool) (m : Numbers) (R : ℕ) where
  abbrev pub plain_answer : Entries → Asked → Answer
  plain_answer bits (placing z ws) = verdict (plain_place (wide m) m.small R z ws)
  plain_answer bits (reading x have) = verdict (plain_read (wide m) R bits x (min have (wide m + 1)))
  plain_answer bits (doing o lent) = verdict (plain_call m R (handed m lent) bits o)
  plain_answer bits (ordering bytes lent) =
      stopped (plain_lists m (handed m lent)) (ordered Entries (plain_op R) entered 0 bits (parsed bytes))

  abbrev pub plain_next : Entries → Asked → Entries
  plain_next bits (placing z ws) = bits_place (wide m) m.small R bits z ws (bit_of ws)
  plain_next bits (reading x have) = bits
  plain_next bits (doing o lent) = unless_refused (plain_call m R (handed m lent) bits o) bits (entered bits o)
  plain_next bits (ordering bytes lent) =
      unless_refused (plain_lists m (handed m lent)) bits (ordered Entries (plain_op R) entered 0 bits (parsed bytes)).state

  abbrev pub plain_answers : Entries → List Asked → List Answer
  plain_answers bits [] = []
  plain_answers bits (c ∷ cs) = plain_answer bits c ∷ plain_answers (plain_next bits c) cs

  abbrev pub plain_left : Entries → List Asked → Entries
  plain_left bits [] = bits
  plain_left bits (c ∷ cs) = plain_left (plain_next bits c) cs
