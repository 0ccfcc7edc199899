-- Orders are calls on the file and on the machine of plain bits, and both give one answer.
use Rattle.std.specs.Prelude.{◌≡◌, ℕ, List, Option}
use Rattle.set.specs.declared.numbers.Numbers.{Numbers}
use Rattle.registers.specs.declared.lists.Lists.{Lists}
use Rattle.registers.specs.declared.op.Op.{Op}
use Rattle.registers.specs.Marks.{State}
use Rattle.registers.specs.Steps.{Gates, refuse_op, done_op}
use Rattle.calls.specs.Orders.{ordered, OrdersAreCalls}
use Rattle.calls.specs.Plain.{Entries, plain_op, entered}
use Rattle.calls.specs.Calls.{refuse_by}
use Rattle.calls.specs.Gated.{OnOrders, LongGate}
use Rattle.calls.specs.Followed.{Tracks}

pub record AllOrdersAreCalls : Type 0 where
  pub on_file : (gates : Gates) (m : Numbers) (s : State) (os : List (Option Op))
      → OrdersAreCalls State (refuse_op m) (done_op gates m) s os (ordered State (refuse_op m) (done_op gates m) 0 s os)
  -- each order handed these lists
  pub on_lists : (gates : Gates) (m : Numbers) (count : ℕ) (lists : Lists) (s : State) (os : List (Option Op))
      → OrdersAreCalls State (refuse_by m count lists) (done_op gates m) s os (ordered State (refuse_by m count lists) (done_op gates m) 0 s os)
  pub on_bits : (R : ℕ) (bits : Entries) (os : List (Option Op))
      → OrdersAreCalls Entries (plain_op R) entered bits os (ordered Entries (plain_op R) entered 0 bits os)
  pub agree : (gates : Gates) (m : Numbers) (s : State) (bits : Entries) → Tracks m s bits → (os : List (Option Op)) → OnOrders (LongGate gates m) os
      → ((ordered State (refuse_op m) (done_op gates m) 0 s os).count ≡ (ordered Entries (plain_op s.count) entered 0 bits os).count)
      × ((ordered State (refuse_op m) (done_op gates m) 0 s os).stop ≡ (ordered Entries (plain_op s.count) entered 0 bits os).stop)
      × Tracks m (ordered State (refuse_op m) (done_op gates m) 0 s os).state (ordered Entries (plain_op s.count) entered 0 bits os).state
  -- where no gate is ordered, with nothing asked of gates
  pub agree_gateless : (gates : Gates) (m : Numbers) (s : State) (bits : Entries) → Tracks m s bits → (os : List (Option Op)) → OnOrders (λ l. ⊥) os
      → ((ordered State (refuse_op m) (done_op gates m) 0 s os).count ≡ (ordered Entries (plain_op s.count) entered 0 bits os).count)
      × ((ordered State (refuse_op m) (done_op gates m) 0 s os).stop ≡ (ordered Entries (plain_op s.count) entered 0 bits os).stop)
      × Tracks m (ordered State (refuse_op m) (done_op gates m) 0 s os).state (ordered Entries (plain_op s.count) entered 0 bits os).state
