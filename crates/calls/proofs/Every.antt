-- The laws of lists of calls and of orders, for any gates.
use Rattle.std.proofs.Common.{◌≡◌, ℕ, Bool, List, [], ◌∷◌, replicate, Option, Some, None, refl, ◌∙◌, subst}
use Rattle.set.specs.declared.numbers.Numbers.{Numbers}
use Rattle.gate.specs.declared.letter.Letter.{Letter}
use Rattle.registers.specs.declared.op.Op.{Op}
use Rattle.registers.specs.declared.op.Op.TheVariants.{Gate, Invert, Copy, Clear}
use Rattle.registers.specs.Marks.{State}
use Rattle.registers.specs.Steps.{Gates, fresh, refuse_op, done_op}
use Rattle.registers.proofs.Accepted.{op_accepted}
use Rattle.calls.specs.Plain.{Entries, plain_op, entered}
use Rattle.calls.specs.Orders.{parsed, ordered}
use Rattle.calls.specs.Calls.{Asked, placing, reading, doing, ordering, next, refuse_by}
use Rattle.calls.specs.Gated.{OnGate, OnOrders, OnCalls, NoGates, LongGate, RightGate}
use Rattle.calls.specs.Followed.{Tracks}
use Rattle.calls.specs.Held.{HoldsUnder}
use Rattle.calls.specs.Lists.{AllSound, EveryList, EveryGateless}
use Rattle.calls.specs.Both.{AllOrdersAreCalls}
use Rattle.calls.proofs.Followed.{operates, done, done_count}
use Rattle.calls.proofs.Held.{Kept, kept_under}
use Rattle.calls.proofs.Ordering.{same_ending, orders_are_calls}
use Rattle.calls.proofs.Blind.{same_shapes}
use Rattle.calls.proofs.Goes.{all_answers, all_left, all_given, begin}

-- nothing is asked of words, where it does not matter which bit they have
abbrev Words : Bool → List ℕ → Type 0
Words b ws = Unit {0}

kept_words : (m : Numbers) → Kept m Words
kept_words m = record { copied = λ b ws h. tt; inverted = λ b ws h. tt }

module _ (gates : Gates) (m : Numbers) (count R : ℕ) where
  long_right : (l : Letter) → LongGate gates m l → RightGate gates m Words l
  long_right l h = (h, λ xs ys a b p q u v. tt)

  right_right : (P : Bool → List ℕ → Type 0) (l : Letter) → RightGate gates m P l → RightGate gates m P l
  right_right P l h = h

  all_words : (bit_of : List ℕ → Bool) (st : State) (cs : List Asked) → AllSound gates m count Words bit_of st cs
  all_words bit_of st [] = tt
  all_words bit_of st (placing z ws ∷ cs) = ((λ e. tt), all_words bit_of (next gates m count st (placing z ws)) cs)
  all_words bit_of st (reading x have ∷ cs) = (tt, all_words bit_of st cs)
  all_words bit_of st (doing o lent ∷ cs) = (tt, all_words bit_of (next gates m count st (doing o lent)) cs)
  all_words bit_of st (ordering bytes lent ∷ cs) = (tt, all_words bit_of (next gates m count st (ordering bytes lent)) cs)

pub every_list : EveryList
every_list gates m count R =
    record {
      followed = λ bit_of cs long.
          all_answers gates m count R Words (kept_words m) bit_of (LongGate gates m) (long_right gates m count R) (fresh m R) (replicate R None)
          (begin gates m count R Words (kept_words m) bit_of (LongGate gates m) (long_right gates m count R)) cs long (all_words gates m count R bit_of (fresh m R) cs);
      filled = λ bit_of cs long.
          (all_left gates m count R Words (kept_words m) bit_of (LongGate gates m) (long_right gates m count R) (fresh m R) (replicate R None)
          (begin gates m count R Words (kept_words m) bit_of (LongGate gates m) (long_right gates m count R)) cs long (all_words gates m count R bit_of (fresh m R) cs)).tracked;
      held = λ secret bit_of some cs right sound.
          (all_left gates m count R (HoldsUnder m secret) (kept_under m secret some) bit_of (RightGate gates m (HoldsUnder m secret)) (right_right gates m count R (HoldsUnder m secret))
          (fresh m R) (replicate R None)
          (begin gates m count R (HoldsUnder m secret) (kept_under m secret some) bit_of (RightGate gates m (HoldsUnder m secret)) (right_right gates m count R (HoldsUnder m secret)))
          cs right sound).held;
      given = λ secret bit_of some cs right sound.
          all_given gates m count R (HoldsUnder m secret) (kept_under m secret some) bit_of (RightGate gates m (HoldsUnder m secret)) (right_right gates m count R (HoldsUnder m secret))
          (fresh m R) (replicate R None)
          (begin gates m count R (HoldsUnder m secret) (kept_under m secret some) bit_of (RightGate gates m (HoldsUnder m secret)) (right_right gates m count R (HoldsUnder m secret)))
          cs right sound;
      blind = same_shapes gates m count R;
    }

-- where no gate occurs, whatever is asked of gates is met
module _ (P : Letter → Type 0) where
  none_on_gate : (op : Op) → OnGate (λ l. ⊥) op → OnGate P op
  none_on_gate (Gate l x y z) h = absurd h
  none_on_gate (Invert x z) h = tt
  none_on_gate (Copy x z) h = tt
  none_on_gate (Clear z) h = tt

  none_on_orders : (os : List (Option Op)) → OnOrders (λ l. ⊥) os → OnOrders P os
  none_on_orders [] h = tt
  none_on_orders (None ∷ os) h = tt
  none_on_orders (Some op ∷ os) h = (none_on_gate op h.0, none_on_orders os h.1)

  none_on_calls : (cs : List Asked) → NoGates cs → OnCalls P cs
  none_on_calls [] h = tt
  none_on_calls (placing z ws ∷ cs) h = (tt, none_on_calls cs h.1)
  none_on_calls (reading x have ∷ cs) h = (tt, none_on_calls cs h.1)
  none_on_calls (doing o lent ∷ cs) h = (none_on_gate o h.0, none_on_calls cs h.1)
  none_on_calls (ordering bytes lent ∷ cs) h = (none_on_orders (parsed bytes) h.0, none_on_calls cs h.1)

pub every_gateless : EveryGateless
every_gateless gates m count R =
    let all = every_list gates m count R in
    record {
      followed = λ bit_of cs none. all.followed bit_of cs (none_on_calls (LongGate gates m) cs none);
      filled = λ bit_of cs none. all.filled bit_of cs (none_on_calls (LongGate gates m) cs none);
      held = λ secret bit_of some cs none. all.held secret bit_of some cs (none_on_calls (RightGate gates m (HoldsUnder m secret)) cs none);
      given = λ secret bit_of some cs none. all.given secret bit_of some cs (none_on_calls (RightGate gates m (HoldsUnder m secret)) cs none);
      blind = λ cs others none. all.blind cs others (none_on_calls (LongGate gates m) cs none);
    }

-- the file and the plain bits, where R is the count of every state
module _ (gates : Gates) (m : Numbers) (R : ℕ) where
  abbrev Tracked : State → Entries → Type 0
  Tracked s bits = Tracks m s bits × (s.count ≡ R)

  agree_at : (s : State) (bits : Entries) → Tracked s bits → (op : Op) → refuse_op m s op ≡ plain_op R bits op
  agree_at s bits t op = subst (λ (k : ℕ). refuse_op m s op ≡ plain_op k bits op) t.1 (operates m s bits t.0 op)

  on_at : (s : State) (bits : Entries) → Tracked s bits → (op : Op) → OnGate (LongGate gates m) op → refuse_op m s op ≡ None
      → Tracked (done_op gates m s op) (entered bits op)
  on_at s bits t op long e = (done m s bits t.0 gates op long (op_accepted m s op e), done_count gates m s op ∙ t.1)

agree_by : (gates : Gates) (m : Numbers) (s : State) (bits : Entries) → Tracks m s bits → (os : List (Option Op)) → OnOrders (LongGate gates m) os
    → ((ordered State (refuse_op m) (done_op gates m) 0 s os).count ≡ (ordered Entries (plain_op s.count) entered 0 bits os).count)
    × ((ordered State (refuse_op m) (done_op gates m) 0 s os).stop ≡ (ordered Entries (plain_op s.count) entered 0 bits os).stop)
    × Tracks m (ordered State (refuse_op m) (done_op gates m) 0 s os).state (ordered Entries (plain_op s.count) entered 0 bits os).state
agree_by gates m s bits t os long =
    let h = same_ending State Entries (refuse_op m) (done_op gates m) (plain_op s.count) entered (Tracked gates m s.count) (LongGate gates m)
    (agree_at gates m s.count) (on_at gates m s.count) 0 s bits (t, refl) os long in
    (h.counts, h.stopped, h.related.0)

pub all_orders_are_calls : AllOrdersAreCalls
all_orders_are_calls =
    record {
      on_file = λ gates m s os. orders_are_calls State (refuse_op m) (done_op gates m) s os;
      on_lists = λ gates m count lists s os. orders_are_calls State (refuse_by m count lists) (done_op gates m) s os;
      on_bits = λ R bits os. orders_are_calls Entries (plain_op R) entered bits os;
      agree = agree_by;
      agree_gateless = λ gates m s bits t os none. agree_by gates m s bits t os (none_on_orders (LongGate gates m) os none);
    }
