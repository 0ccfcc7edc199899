-- The file and the machine of plain bits, over every list of calls, in any sense of what words of a bit are.
use Rattle.std.proofs.Common.{◌≡◌, ℕ, ◌+◌, min, Bool, true, false, cond, eqb, List, [], ◌∷◌, replicate, Some, None, Option, sym, refl, ap, ◌∙◌, subst, arith}
use Rattle.faults.specs.declared.fault.Fault.{Fault}
use Rattle.faults.specs.declared.fault.Fault.TheVariants.{Length}
use Rattle.faults.specs.declared.fault.Layer.{Layer}
use Rattle.faults.specs.declared.fault.Layer.TheVariants.{File, Runner}
use Rattle.faults.specs.Least.{or_else}
use Rattle.set.specs.declared.numbers.Numbers.{Numbers}
use Rattle.gate.specs.declared.letter.Letter.{Letter}
use Rattle.gate.specs.Lengths.{gate_work}
use Rattle.registers.specs.declared.lists.Lists.{Lists}
use Rattle.registers.specs.declared.op.Op.{Op}
use Rattle.registers.specs.declared.op.Op.TheVariants.{Gate, Invert, Copy, Clear}
use Rattle.registers.specs.Registers.{wide}
use Rattle.registers.specs.Marks.{State}
use Rattle.registers.specs.Steps.{Gates, either, fresh, refuse_place, next_place, refuse_read, gate_lists, done_op}
use Rattle.calls.specs.declared.call.Lent.{Lent}
use Rattle.calls.specs.Answers.{verdict}
use Rattle.calls.specs.Orders.{parsed, ordered}
use Rattle.calls.specs.Plain.{Entries, row7, first_row, handed, plain_place, plain_read, plain_op, plain_call, plain_lists, entered, unless_refused, bits_place}
use Rattle.calls.specs.Calls.{Asked, placing, reading, doing, ordering, lent_lists, refuse_by, refuse_orders, orders_of, answer, next}
use Rattle.calls.specs.Runs.{answers, left, plain_answer, plain_next, plain_answers, plain_left}
use Rattle.calls.specs.Gated.{OnGate, OnOrders, OnCall, OnCalls, LongGate, RightGate}
use Rattle.calls.specs.Followed.{Tracks}
use Rattle.calls.specs.Held.{HeldAs}
use Rattle.calls.specs.Lists.{Sound, AllSound, ReadRight, AllReadRight}
use Rattle.calls.proofs.Followed.{places, reads, calls, order_lists, orders, placed, done, ready_by, done_count, begins, lent_lists_lem}
use Rattle.calls.proofs.Held.{Kept, held_placed, held_done, held_read, held_begins}
use Rattle.calls.proofs.Ordering.{Same, same_ending}
use Rattle.calls.proofs.Blind.{stopped_same}

-- lists that the runner passes are right for a gate
row_by : (p q : Layer) (i j : ℕ) (b : Bool) → cond b None (Some (Length i p)) ≡ None → cond b None (Some (Length j q)) ≡ None
row_by p q i j true e = refl
row_by p q i j false e = absurd (let z : ◌≡◌ {A = ℕ} 0 1 = cc in omega arith)

row_right : (p q : Layer) (i j have want : ℕ) → row7 p i have want ≡ None → row7 q j have want ≡ None
row_right p q i j have want e = row_by p q i j (eqb have want) e

first_none : (a b c : Option Fault) → first_row (a ∷ b ∷ c ∷ []) ≡ None → (a ≡ None) × (b ≡ None) × (c ≡ None)
first_none None None None e = (refl, refl, refl)
first_none None None (Some f) e = absurd (let z : ◌≡◌ {A = ℕ} 0 1 = cc in omega arith)
first_none None (Some f) c e = absurd (let z : ◌≡◌ {A = ℕ} 0 1 = cc in omega arith)
first_none (Some f) b c e = absurd (let z : ◌≡◌ {A = ℕ} 0 1 = cc in omega arith)

right_lists : (m : Numbers) (count : ℕ) (lent : Lent) (st : State) (bits : Entries) → Tracks m st bits → plain_lists m (handed m lent) ≡ None
    → gate_lists m count (lent_lists m count lent) st ≡ None
right_lists m count lent st bits t e =
    let h = first_none (row7 Runner 5 (handed m lent).small (wide m)) (row7 Runner 6 (handed m lent).work (gate_work m)) (row7 Runner 7 (handed m lent).scratch m.degree) e in
    let a : row7 File 4 (handed m lent).small (wide m) ≡ None = row_right Runner File 5 4 (handed m lent).small (wide m) h.0 in
    let b : row7 File 5 (handed m lent).work (gate_work m) ≡ None = row_right Runner File 6 5 (handed m lent).work (gate_work m) h.1 in
    let c : row7 File 6 (handed m lent).scratch m.degree ≡ None = row_right Runner File 7 6 (handed m lent).scratch m.degree h.2 in
    lent_lists_lem m st bits t count lent
    ∙ ap (λ (v : Option Fault). or_else v (or_else (row7 File 5 (handed m lent).work (gate_work m)) (row7 File 6 (handed m lent).scratch m.degree))) a
    ∙ ap (λ (v : Option Fault). or_else v (row7 File 6 (handed m lent).scratch m.degree)) b
    ∙ c

-- what is asked of gates, from something stronger, and of every list where it holds of all letters
pub on_gate : (P Q : Letter → Type 0) → ((l : Letter) → P l → Q l) → (op : Op) → OnGate P op → OnGate Q op
on_gate P Q more (Gate l x y z) h = more l h
on_gate P Q more (Invert x z) h = tt
on_gate P Q more (Copy x z) h = tt
on_gate P Q more (Clear z) h = tt

module _ (P : Letter → Type 0) (all : (l : Letter) → P l) where
  each_op : (op : Op) → OnGate P op
  each_op (Gate l x y z) = all l
  each_op (Invert x z) = tt
  each_op (Copy x z) = tt
  each_op (Clear z) = tt

  each_order : (os : List (Option Op)) → OnOrders P os
  each_order [] = tt
  each_order (None ∷ os) = tt
  each_order (Some op ∷ os) = (each_op op, each_order os)

  pub each_call : (cs : List Asked) → OnCalls P cs
  each_call [] = tt
  each_call (placing z ws ∷ cs) = (tt, each_call cs)
  each_call (reading x have ∷ cs) = (tt, each_call cs)
  each_call (doing o lent ∷ cs) = (each_op o, each_call cs)
  each_call (ordering bytes lent ∷ cs) = (each_order (parsed bytes), each_call cs)

module _ (gates : Gates) (m : Numbers) (count R : ℕ) (P : Bool → List ℕ → Type 0) (kept : Kept m P) (bit_of : List ℕ → Bool)
    (L : Letter → Type 0) (right : (l : Letter) → L l → RightGate gates m P l) where
  -- both machines side by side
  pub record Goes (st : State) (bits : Entries) : Type 0 where
    pub tracked : Tracks m st bits
    pub counted : st.count ≡ R
    pub held : HeldAs m P st bits

  right_op : (op : Op) → OnGate L op → OnGate (RightGate gates m P) op
  right_op op h = on_gate L (RightGate gates m P) right op h

  long_op : (op : Op) → OnGate L op → OnGate (LongGate gates m) op
  long_op op h = on_gate L (LongGate gates m) (λ l k. (right l k).0) op h

  -- an operation on both machines
  acted : (lists : Lists) (st : State) (bits : Entries) → Goes st bits → (op : Op) → OnGate L op → refuse_by m count lists st op ≡ None
      → Goes (done_op gates m st op) (entered bits op)
  acted lists st bits g op p e =
      let a = ready_by m count lists st op e in
      record {
        tracked = done m st bits g.tracked gates op (long_op op p) a;
        counted = done_count gates m st op ∙ g.counted;
        held = held_done m P st bits g.tracked g.held kept gates op (right_op op p) a;
      }

  -- one order on both machines
  module _ (lent : Lent) (fit : plain_lists m (handed m lent) ≡ None) where
    agree : (st : State) (bits : Entries) → Goes st bits → (op : Op) → refuse_by m count (lent_lists m count lent) st op ≡ plain_op R bits op
    agree st bits g op =
        subst (λ (k : ℕ). refuse_by m count (lent_lists m count lent) st op ≡ plain_op k bits op) g.counted
        (orders m st bits g.tracked count (lent_lists m count lent) (right_lists m count lent st bits g.tracked fit) op)

    same-orders : (st : State) (bits : Entries) → Goes st bits → (bytes : List ℕ) → OnOrders L (parsed bytes)
        → Same Goes (orders_of gates m count (lent_lists m count lent) st bytes) (ordered Entries (plain_op R) entered 0 bits (parsed bytes))
    unfolding orders_of
    same-orders st bits g bytes p =
        same_ending State Entries (refuse_by m count (lent_lists m count lent)) (done_op gates m) (plain_op R) entered Goes L agree
        (acted (lent_lists m count lent)) 0 st bits g (parsed bytes) p

  list_fault : (st : State) (bits : Entries) → Goes st bits → (lent : Lent) → refuse_orders m count (lent_lists m count lent) st ≡ plain_lists m (handed m lent)
  list_fault st bits g lent = order_lists m st bits g.tracked count lent

  -- each call gets one answer
  one_answer : (st : State) (bits : Entries) → Goes st bits → (c : Asked) → OnCall L c → answer gates m count st c ≡ plain_answer bit_of m R bits c
  one_answer st bits g (placing z ws) p =
      ap verdict (subst (λ (k : ℕ). refuse_place m st z ws ≡ plain_place (wide m) m.small k z ws) g.counted (places m st bits g.tracked z ws))
  one_answer st bits g (reading x have) p =
      ap verdict (subst (λ (k : ℕ). refuse_read m st x (min have (wide m + 1)) ≡ plain_read (wide m) k bits x (min have (wide m + 1)))
      g.counted (reads m st bits g.tracked x (min have (wide m + 1))))
  one_answer st bits g (doing o lent) p =
      ap verdict (subst (λ (k : ℕ). refuse_by m count (lent_lists m count lent) st o ≡ plain_call m k (handed m lent) bits o)
      g.counted (calls m st bits g.tracked count lent o))
  one_answer st bits g (ordering bytes lent) p =
      stopped_same (refuse_orders m count (lent_lists m count lent) st) (plain_lists m (handed m lent))
      (orders_of gates m count (lent_lists m count lent) st bytes) (ordered Entries (plain_op R) entered 0 bits (parsed bytes))
      (list_fault st bits g lent)
      (λ e. (let h = same-orders lent (sym (list_fault st bits g lent) ∙ e) st bits g bytes p in (h.counts, h.stopped)))

  -- refused both, or accepted both
  either_goes : (st : State) (bits : Entries) → Goes st bits → (after : State) (new : Entries) (r q : Option Fault) → r ≡ q → (r ≡ None → Goes after new)
      → Goes (either r st after) (unless_refused q bits new)
  either_goes st bits g after new None None e more = more refl
  either_goes st bits g after new (Some f) (Some h) e more = g
  either_goes st bits g after new None (Some h) e more = absurd (let z : ◌≡◌ {A = ℕ} 0 1 = cc in omega arith)
  either_goes st bits g after new (Some f) None e more = absurd (let z : ◌≡◌ {A = ℕ} 0 1 = cc in omega arith)

  either_count : (r : Option Fault) (st after : State) → after.count ≡ st.count → (either r st after).count ≡ st.count
  either_count None st after e = e
  either_count (Some f) st after e = refl

  pub one_step : (st : State) (bits : Entries) → Goes st bits → (c : Asked) → OnCall L c → Sound gates m count P bit_of st c
      → Goes (next gates m count st c) (plain_next bit_of m R bits c)
  one_step st bits g (placing z ws) p sound =
      record {
        tracked = subst (λ (k : ℕ). Tracks m (next_place m st z ws) (bits_place (wide m) m.small k bits z ws (bit_of ws))) g.counted (placed m st bits g.tracked z ws (bit_of ws));
        counted = either_count (refuse_place m st z ws) st _ refl ∙ g.counted;
        held = subst (λ (k : ℕ). HeldAs m P (next_place m st z ws) (bits_place (wide m) m.small k bits z ws (bit_of ws))) g.counted
            (held_placed m P st bits g.tracked g.held z ws (bit_of ws) sound);
      }
  one_step st bits g (reading x have) p sound = g
  one_step st bits g (doing o lent) p sound =
      either_goes st bits g (done_op gates m st o) (entered bits o) (refuse_by m count (lent_lists m count lent) st o) (plain_call m R (handed m lent) bits o)
      (subst (λ (k : ℕ). refuse_by m count (lent_lists m count lent) st o ≡ plain_call m k (handed m lent) bits o) g.counted (calls m st bits g.tracked count lent o))
      (acted (lent_lists m count lent) st bits g o p)
  one_step st bits g (ordering bytes lent) p sound =
      either_goes st bits g (orders_of gates m count (lent_lists m count lent) st bytes).state (ordered Entries (plain_op R) entered 0 bits (parsed bytes)).state
      (refuse_orders m count (lent_lists m count lent) st) (plain_lists m (handed m lent))
      (list_fault st bits g lent)
      (λ e. (same-orders lent (sym (list_fault st bits g lent) ∙ e) st bits g bytes p).related)

  pub all_answers : (st : State) (bits : Entries) → Goes st bits → (cs : List Asked) → OnCalls L cs → AllSound gates m count P bit_of st cs
      → answers gates m count st cs ≡ plain_answers bit_of m R bits cs
  unfolding answers
  all_answers st bits g [] p q = refl
  all_answers st bits g (c ∷ cs) p q =
      let here : answer gates m count st c ≡ plain_answer bit_of m R bits c = one_answer st bits g c p.0 in
      let more : answers gates m count (next gates m count st c) cs ≡ plain_answers bit_of m R (plain_next bit_of m R bits c) cs =
      all_answers (next gates m count st c) (plain_next bit_of m R bits c) (one_step st bits g c p.0 q.0) cs p.1 q.1 in
      cc

  pub all_left : (st : State) (bits : Entries) → Goes st bits → (cs : List Asked) → OnCalls L cs → AllSound gates m count P bit_of st cs
      → Goes (left gates m count st cs) (plain_left bit_of m R bits cs)
  unfolding left
  all_left st bits g [] p q = g
  all_left st bits g (c ∷ cs) p q =
      all_left (next gates m count st c) (plain_next bit_of m R bits c) (one_step st bits g c p.0 q.0) cs p.1 q.1

  read_right : (st : State) (bits : Entries) → Goes st bits → (c : Asked) → ReadRight gates m count P bit_of st bits c
  read_right st bits g (placing z ws) = tt
  read_right st bits g (reading x have) = held_read m P st bits g.tracked g.held kept x (min have (wide m + 1))
  read_right st bits g (doing o lent) = tt
  read_right st bits g (ordering bytes lent) = tt

  pub all_given : (st : State) (bits : Entries) → Goes st bits → (cs : List Asked) → OnCalls L cs → AllSound gates m count P bit_of st cs
      → AllReadRight gates m count P bit_of st bits cs
  all_given st bits g [] p q = tt
  all_given st bits g (c ∷ cs) p q = (
    read_right st bits g c,
    subst (λ (k : ℕ). AllReadRight gates m count P bit_of (next gates m count st c) (plain_next bit_of m k bits c) cs) (sym g.counted)
        (all_given (next gates m count st c) (plain_next bit_of m R bits c) (one_step st bits g c p.0 q.0) cs p.1 q.1),
  )

  pub begin : Goes (fresh m R) (replicate R None)
  begin = record { tracked = begins m R; counted = refl; held = held_begins m P R }
