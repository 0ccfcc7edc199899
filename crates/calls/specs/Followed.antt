-- The file and the machine of plain bits, side by side.
use Rattle.std.specs.Prelude.{◌≡◌, ℕ, ◌+◌, ◌*◌, min, Bool, List, map, length, replicate, is_some, None}
use Rattle.set.specs.declared.numbers.Numbers.{Numbers}
use Rattle.registers.specs.declared.op.Op.{Op}
use Rattle.registers.specs.Registers.{wide}
use Rattle.registers.specs.Marks.{State}
use Rattle.registers.specs.Steps.{Gates, either, fresh, refuse_place, next_place, refuse_read, refuse_op, done_op}
use Rattle.calls.specs.declared.call.Lent.{Lent}
use Rattle.calls.specs.Plain.{Entries, handed, plain_place, plain_read, plain_op, plain_call, plain_lists, bits_place, bits_op}
use Rattle.calls.specs.Calls.{lent_lists, refuse_by, refuse_orders}
use Rattle.calls.specs.Gated.{OnGate, LongGate}

-- there are R entries, the same registers are filled, and register memory has its length
pub record Tracks (m : Numbers) (s : State) (bits : Entries) : Type 0 where
  pub whole : length s.words ≡ s.count * wide m
  pub entries : length bits ≡ s.count
  pub same : s.marks ≡ map (is_some {T = Bool}) bits

-- what an operation leaves that is handed register memory alone
abbrev pub next_op : Gates → Numbers → State → Op → State
next_op gates m s op = either (refuse_op m s op) s (done_op gates m s op)

-- both begin alike, give each call the same answer, and go on alike, whatever bit a placed ciphertext is said to hold
pub record PlainFollows : Type 0 where
  pub begins : (m : Numbers) (count : ℕ) → Tracks m (fresh m count) (replicate count None)
  pub places : (m : Numbers) (s : State) (bits : Entries) → Tracks m s bits → (z : ℕ) (ws : List ℕ)
      → refuse_place m s z ws ≡ plain_place (wide m) m.small s.count z ws
  pub placed : (m : Numbers) (s : State) (bits : Entries) → Tracks m s bits → (z : ℕ) (ws : List ℕ) (bit : Bool)
      → Tracks m (next_place m s z ws) (bits_place (wide m) m.small s.count bits z ws bit)
  pub reads : (m : Numbers) (s : State) (bits : Entries) → Tracks m s bits → (x have : ℕ)
      → refuse_read m s x have ≡ plain_read (wide m) s.count bits x have
  pub operates : (m : Numbers) (s : State) (bits : Entries) → Tracks m s bits → (op : Op)
      → refuse_op m s op ≡ plain_op s.count bits op
  pub operated : (gates : Gates) (m : Numbers) (s : State) (bits : Entries) → Tracks m s bits → (op : Op) → OnGate (LongGate gates m) op
      → Tracks m (next_op gates m s op) (bits_op s.count bits op)
  -- a run hands a read n + 2 words at most, which changes no answer, and lends an operation and a list of orders work memory
  pub cut : (m : Numbers) (s : State) (x have : ℕ) → refuse_read m s x (min have (wide m + 1)) ≡ refuse_read m s x have
  pub calls : (m : Numbers) (s : State) (bits : Entries) → Tracks m s bits → (count : ℕ) (lent : Lent) (op : Op)
      → refuse_by m count (lent_lists m count lent) s op ≡ plain_call m s.count (handed m lent) bits op
  pub orders : (m : Numbers) (s : State) (bits : Entries) → Tracks m s bits → (count : ℕ) (lent : Lent)
      → refuse_orders m count (lent_lists m count lent) s ≡ plain_lists m (handed m lent)
