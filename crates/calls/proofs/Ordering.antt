-- Orders are calls, and two machines that agree on calls agree on orders.
use Rattle.std.proofs.Common.{◌≡◌, ℕ, ◌+◌, List, [], ◌∷◌, ◌++◌, map, length, Some, None, Option, refl, ap, arith}
use Rattle.faults.specs.declared.fault.Fault.{Fault}
use Rattle.registers.specs.declared.op.Op.{Op}
use Rattle.gate.specs.declared.letter.Letter.{Letter}
use Rattle.calls.specs.Orders.{Ending, onward, ordered, AllRan, Stops, OrdersAreCalls}
use Rattle.calls.specs.Gated.{OnGate, OnOrders}

module _ (S : Type 0) (refuse : S → Op → Option Fault) (carried : S → Op → S) where
  -- the same, where c orders ran before
  record Calls (c : ℕ) (s : S) (os : List (Option Op)) (e : Ending S) : Type 0 where
    pub ops : List Op
    pub rest : List (Option Op)
    pub whole : os ≡ map (λ op. Some op) ops ++ rest
    pub counted : e.count ≡ c + length ops
    pub ran : AllRan S refuse carried s ops e.state
    pub stops : Stops S refuse carried e.state e.count rest e.stop

  -- one order that is refused, or that runs before others
  one_more : (c : ℕ) (s : S) (op : Op) (os : List (Option Op)) (r : Option Fault) (more : Ending S) → refuse s op ≡ r
      → Calls (c + 1) (carried s op) os more → Calls c s (Some op ∷ os) (onward r s c more)
  one_more c s op os (Some f) more e h =
      record { ops = []; rest = Some op ∷ os; whole = refl; counted = omega arith; ran = refl; stops = (f, (e, refl)) }
  one_more c s op os None more e h =
      record {
        ops = op ∷ h.ops;
        rest = h.rest;
        whole = ap (λ (t : List (Option Op)). Some op ∷ t) h.whole;
        counted = (let k = h.counted in omega arith);
        ran = (e, h.ran);
        stops = h.stops;
      }

  each_order : (c : ℕ) (s : S) (os : List (Option Op)) → Calls c s os (ordered S refuse carried c s os)
  each_order c s [] = record { ops = []; rest = []; whole = refl; counted = omega arith; ran = refl; stops = refl }
  each_order c s (None ∷ os) = record { ops = []; rest = None ∷ os; whole = refl; counted = omega arith; ran = refl; stops = refl }
  each_order c s (Some op ∷ os) =
      one_more c s op os (refuse s op) (ordered S refuse carried (c + 1) (carried s op) os) refl (each_order (c + 1) (carried s op) os)

  pub orders_are_calls : (s : S) (os : List (Option Op)) → OrdersAreCalls S refuse carried s os (ordered S refuse carried 0 s os)
  orders_are_calls s os =
      let h = each_order 0 s os in
      record { ops = h.ops; rest = h.rest; whole = h.whole; counted = (let k = h.counted in omega arith); ran = h.ran; stops = h.stops }

-- two endings in which as many ran, that stopped for one reason, and whose states are related
pub record Same {S T : Type 0} (Rel : S → T → Type 0) (d : Ending S) (e : Ending T) : Type 0 where
  pub counts : d.count ≡ e.count
  pub stopped : d.stop ≡ e.stop
  pub related : Rel d.state e.state

-- two machines whose refusals agree, and that go on alike where gates have a property, give the same answer to a list of orders
module _ (S T : Type 0) (refuse : S → Op → Option Fault) (carried : S → Op → S) (refused : T → Op → Option Fault) (brought : T → Op → T)
    (Rel : S → T → Type 0) (P : Letter → Type 0) (agree : (s : S) (t : T) → Rel s t → (op : Op) → refuse s op ≡ refused t op)
    (go : (s : S) (t : T) → Rel s t → (op : Op) → OnGate P op → refuse s op ≡ None → Rel (carried s op) (brought t op)) where
  both_ways : (c : ℕ) (s : S) (t : T) → Rel s t → (r q : Option Fault) (d : Ending S) (e : Ending T) → r ≡ q → (r ≡ None → Same Rel d e)
      → Same Rel (onward r s c d) (onward q t c e)
  both_ways c s t h None None d e p more = more refl
  both_ways c s t h (Some f) (Some g) d e p more = record { counts = refl; stopped = p; related = h }
  both_ways c s t h None (Some g) d e p more = absurd (let z : ◌≡◌ {A = ℕ} 0 1 = cc in omega arith)
  both_ways c s t h (Some f) None d e p more = absurd (let z : ◌≡◌ {A = ℕ} 0 1 = cc in omega arith)

  pub same_ending : (c : ℕ) (s : S) (t : T) → Rel s t → (os : List (Option Op)) → OnOrders P os
      → Same Rel (ordered S refuse carried c s os) (ordered T refused brought c t os)
  same_ending c s t h [] p = record { counts = refl; stopped = refl; related = h }
  same_ending c s t h (None ∷ os) p = record { counts = refl; stopped = refl; related = h }
  same_ending c s t h (Some op ∷ os) p =
      both_ways c s t h (refuse s op) (refused t op) (ordered S refuse carried (c + 1) (carried s op) os) (ordered T refused brought (c + 1) (brought t op) os)
      (agree s t h op) (λ e. same_ending (c + 1) (carried s op) (brought t op) (go s t h op p.0 e) os p.1)
