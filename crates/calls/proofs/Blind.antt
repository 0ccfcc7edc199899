-- Words below q decide no answer.
use Rattle.std.proofs.Common.{◌≡◌, ℕ, ◌+◌, ◌*◌, ◌<◌, min, Bool, true, false, cond, ltb, ◌⊎◌, List, [], ◌∷◌, map, length, set, Some, None, Option, sym, refl, ap, ◌∙◌, subst, inl, inr, arith}
use Rattle.std.proofs.lemmas.List.{length-map}
use Rattle.faults.specs.declared.fault.Fault.{Fault}
use Rattle.set.specs.declared.numbers.Numbers.{Numbers}
use Rattle.registers.specs.declared.lists.Lists.{Lists}
use Rattle.registers.specs.declared.op.Op.{Op}
use Rattle.registers.specs.declared.op.Op.TheVariants.{Gate, Invert, Copy, Clear}
use Rattle.registers.specs.Registers.{wide, row_at, remainders, opposite, first_high}
use Rattle.registers.specs.Marks.{State}
use Rattle.registers.specs.Steps.{Gates, either, fresh, written, done_place, refuse_place, next_place, refuse_read, named, used, done_op, refuse_op}
use Rattle.registers.proofs.Accepted.{Ready, place_accepted, op_accepted}
use Rattle.registers.proofs.Memory.{row_fits, row_long, put_long}
use Rattle.registers.proofs.Opposite.{opposite_long, remainders_long}
use Rattle.calls.specs.Answers.{verdict}
use Rattle.calls.specs.Orders.{Ending, parsed}
use Rattle.calls.specs.Calls.{Asked, placing, reading, doing, ordering, lent_lists, refuse_by, refuse_orders, orders_of, stopped, answer, next}
use Rattle.calls.specs.Runs.{answers}
use Rattle.calls.specs.Promise.{blank, placed, other, shape}
use Rattle.calls.specs.Gated.{OnGate, OnOrders, OnCall, OnCalls, LongGate}
use Rattle.calls.specs.Followed.{next_op}
use Rattle.calls.specs.Alike.{Alike, WordsDecideNothing}
use Rattle.calls.proofs.Followed.{ready_by}
use Rattle.calls.proofs.Ordering.{same_ending}

-- the first word that is not blank
abbrev first_shown : ℕ → List (Option ℕ) → Option ℕ
first_shown i [] = None
first_shown i (None ∷ vs) = first_shown (i + 1) vs
first_shown i (Some v ∷ vs) = Some i

by_word : (b : Bool) (i v : ℕ) (rest : Option ℕ) (vs : List (Option ℕ)) → rest ≡ first_shown (i + 1) vs
    → cond b rest (Some i) ≡ first_shown i (cond b None (Some v) ∷ vs)
by_word true i v rest vs e = e
by_word false i v rest vs e = refl

by_shape : (q i : ℕ) (ws : List ℕ) → first_high q i ws ≡ first_shown i (map (blank q) ws)
by_shape q i [] = refl
by_shape q i (v ∷ vs) = by_word (ltb v q) i v (first_high q (i + 1) vs) (map (blank q) vs) (by_shape q (i + 1) vs)

module _ (q : ℕ) (ws vs : List ℕ) (alike : map (blank q) ws ≡ map (blank q) vs) where
  same_high : first_high q 0 ws ≡ first_high q 0 vs
  same_high = by_shape q 0 ws ∙ ap (first_shown 0) alike ∙ sym (by_shape q 0 vs)

  same_length : length ws ≡ length vs
  same_length = sym (length-map ws (blank q)) ∙ ap length alike ∙ length-map vs (blank q)

-- answers to endings that agree
pub stopped_same : {S T : Type 0} (r q : Option Fault) (d : Ending S) (e : Ending T) → r ≡ q → (r ≡ None → (d.count ≡ e.count) × (d.stop ≡ e.stop))
    → stopped r d ≡ stopped q e
stopped_same (Some f) (Some g) d e p more = (let i : f ≡ g = cc in cc)
stopped_same None None d e p more = (let h = more refl in let c = h.0 in let s = h.1 in cc)
stopped_same None (Some g) d e p more = absurd (let z : ◌≡◌ {A = ℕ} 0 1 = cc in omega arith)
stopped_same (Some f) None d e p more = absurd (let z : ◌≡◌ {A = ℕ} 0 1 = cc in omega arith)

module _ (gates : Gates) (m : Numbers) (count : ℕ) where
  module _ (s t : State) (a : Alike s t) where
    places : (z : ℕ) (ws vs : List ℕ) → map (blank m.small) ws ≡ map (blank m.small) vs → refuse_place m s z ws ≡ refuse_place m t z vs
    places z ws vs e =
        let h = same_high m.small ws vs e in
        let l = same_length m.small ws vs e in
        let c = a.counts in
        let n = a.lengths in
        cc

    reads : (x have : ℕ) → refuse_read m s x have ≡ refuse_read m t x have
    reads x have = let c = a.counts in let k = a.marked in let n = a.lengths in cc

    operates : (lists : Lists) (op : Op) → refuse_by m count lists s op ≡ refuse_by m count lists t op
    operates lists (Gate l x y z) = let c = a.counts in let k = a.marked in let n = a.lengths in cc
    operates lists (Invert x z) = let c = a.counts in let k = a.marked in let n = a.lengths in cc
    operates lists (Copy x z) = let c = a.counts in let k = a.marked in let n = a.lengths in cc
    operates lists (Clear z) = let c = a.counts in let k = a.marked in let n = a.lengths in cc

    lists-same : (lists : Lists) → refuse_orders m count lists s ≡ refuse_orders m count lists t
    lists-same lists = let c = a.counts in let n = a.lengths in cc

    -- refused both, or accepted both
    either_way : (u v : State) (r q : Option Fault) → r ≡ q → (r ≡ None → q ≡ None → Alike u v) → Alike (either r s u) (either q t v)
    either_way u v None None e go = go refl refl
    either_way u v (Some f) (Some g) e go = a
    either_way u v None (Some g) e go = absurd (let z : ◌≡◌ {A = ℕ} 0 1 = cc in omega arith)
    either_way u v (Some f) None e go = absurd (let z : ◌≡◌ {A = ℕ} 0 1 = cc in omega arith)

    -- a register written on both sides
    put_on : (z : ℕ) (row col : List ℕ) → length s.words ≡ s.count * wide m → length t.words ≡ t.count * wide m
        → z < s.count → z < t.count → length row ≡ wide m → length col ≡ wide m → Alike (written m s z row) (written m t z col)
    put_on z row col w x l k r e =
        record {
          counts = a.counts;
          marked = ap (λ (v : List Bool). set v z true) a.marked;
          lengths =
              put_long (wide m) z s.words row (row_fits z (wide m) (wide m) s.count (length s.words) refl w l) r
              ∙ a.lengths
              ∙ sym (put_long (wide m) z t.words col (row_fits z (wide m) (wide m) t.count (length t.words) refl x k) e);
        }

    put-alike : (z : ℕ) (ws vs : List ℕ) → map (blank m.small) ws ≡ map (blank m.small) vs → Alike (next_place m s z ws) (next_place m t z vs)
    put-alike z ws vs e =
        either_way (done_place m s z ws) (done_place m t z vs) (refuse_place m s z ws) (refuse_place m t z vs) (places z ws vs e)
        (λ p q.
        let x = place_accepted m s z ws p in
        let y = place_accepted m t z vs q in
        put_on z ws vs x.ready.whole y.ready.whole (x.ready.low z (inl refl)) (y.ready.low z (inl refl)) x.long y.long)

    -- a register has n + 1 words
    long_row : (u : State) (x : ℕ) → length u.words ≡ u.count * wide m → x < u.count → length (row_at (wide m) x u.words) ≡ wide m
    long_row u x whole low = row_long (wide m) u.words x (row_fits x (wide m) (wide m) u.count (length u.words) refl whole low)

    done : (op : Op) → OnGate (LongGate gates m) op → Ready m s (named op) (used op) → Ready m t (named op) (used op)
        → Alike (done_op gates m s op) (done_op gates m t op)
    done (Gate l x y z) long p q =
        put_on z (gates l (row_at (wide m) x s.words) (row_at (wide m) y s.words)) (gates l (row_at (wide m) x t.words) (row_at (wide m) y t.words))
        p.whole q.whole (p.low z (inr (inr (inl refl)))) (q.low z (inr (inr (inl refl))))
        (long _ _ (long_row s x p.whole (p.low x (inl refl))) (long_row s y p.whole (p.low y (inr (inl refl)))))
        (long _ _ (long_row t x q.whole (q.low x (inl refl))) (long_row t y q.whole (q.low y (inr (inl refl)))))
    done (Invert x z) long p q =
        put_on z (opposite m (row_at (wide m) x s.words)) (opposite m (row_at (wide m) x t.words)) p.whole q.whole
        (p.low z (inr (inl refl))) (q.low z (inr (inl refl))) (opposite_long m (row_at (wide m) x s.words)) (opposite_long m (row_at (wide m) x t.words))
    done (Copy x z) long p q =
        put_on z (remainders m (row_at (wide m) x s.words)) (remainders m (row_at (wide m) x t.words)) p.whole q.whole
        (p.low z (inr (inl refl))) (q.low z (inr (inl refl))) (remainders_long m (row_at (wide m) x s.words)) (remainders_long m (row_at (wide m) x t.words))
    done (Clear z) long p q = record { counts = a.counts; marked = ap (λ (l : List Bool). set l z false) a.marked; lengths = a.lengths }

    go_on : (lists : Lists) (op : Op) → OnGate (LongGate gates m) op → refuse_by m count lists s op ≡ None → Alike (done_op gates m s op) (done_op gates m t op)
    go_on lists op long e = done op long (ready_by m count lists s op e) (ready_by m count lists t op (sym (operates lists op) ∙ e))

    -- an operation on register memory alone
    memory-same : (op : Op) → refuse_op m s op ≡ refuse_op m t op
    memory-same op = let c = a.counts in let k = a.marked in let n = a.lengths in cc

    operated : (op : Op) → OnGate (LongGate gates m) op → Alike (next_op gates m s op) (next_op gates m t op)
    operated op long =
        either_way (done_op gates m s op) (done_op gates m t op) (refuse_op m s op) (refuse_op m t op) (memory-same op)
        (λ e f. done op long (op_accepted m s op e) (op_accepted m t op f))

  -- a list of orders
  module _ (lists : Lists) (s t : State) (a : Alike s t) (bytes : List ℕ) (long : OnOrders (LongGate gates m) (parsed bytes)) where
    same-orders : ((orders_of gates m count lists s bytes).count ≡ (orders_of gates m count lists t bytes).count)
        × ((orders_of gates m count lists s bytes).stop ≡ (orders_of gates m count lists t bytes).stop)
        × Alike (orders_of gates m count lists s bytes).state (orders_of gates m count lists t bytes).state
    unfolding orders_of
    same-orders =
        let h = same_ending State State (refuse_by m count lists) (done_op gates m) (refuse_by m count lists) (done_op gates m) Alike (LongGate gates m)
        (λ u v b op. operates u v b lists op) (λ u v b op long e. go_on u v b lists op long e) 0 s t a (parsed bytes) long in
        (h.counts, h.stopped, h.related)

  -- calls of one shape
  same_step : (s t : State) → Alike s t → (c : Asked) → OnCall (LongGate gates m) c
      → (answer gates m count s c ≡ answer gates m count t c) × Alike (next gates m count s c) (next gates m count t c)
  same_step s t a (placing z ws) long = (ap verdict (places s t a z ws ws refl), put-alike s t a z ws ws refl)
  same_step s t a (reading x have) long = (ap verdict (reads s t a x (min have (wide m + 1))), a)
  same_step s t a (doing o lent) long =
      let lists : Lists = lent_lists m count lent in (
        ap verdict (operates s t a lists o),
        either_way s t a (done_op gates m s o) (done_op gates m t o) (refuse_by m count lists s o) (refuse_by m count lists t o) (operates s t a lists o)
            (λ p q. go_on s t a lists o long p),
      )
  same_step s t a (ordering bytes lent) long =
      let lists : Lists = lent_lists m count lent in
      let h = same-orders lists s t a bytes long in (
        stopped_same (refuse_orders m count lists s) (refuse_orders m count lists t) (orders_of gates m count lists s bytes) (orders_of gates m count lists t bytes)
            (lists-same s t a lists) (λ p. (h.0, h.1)),
        either_way s t a _ _ (refuse_orders m count lists s) (refuse_orders m count lists t) (lists-same s t a lists) (λ p q. h.2),
      )

  -- a call is a placing, or its shape is the call itself
  view : (c : Asked) → ((z : ℕ) × ((ws : List ℕ) × (c ≡ placing z ws))) ⊎ (shape m.small c ≡ other c)
  view (placing z ws) = inl (z, (ws, refl))
  view (reading x have) = inr refl
  view (doing o lent) = inr refl
  view (ordering bytes lent) = inr refl

  no_shape : {A : Type 0} → ◌≡◌ {A = ℕ} 0 1 → A
  no_shape z = absurd (omega arith)

  both_placed : (s t : State) → Alike s t → (y z : ℕ) (ws vs : List ℕ) → shape m.small (placing y ws) ≡ shape m.small (placing z vs)
      → (answer gates m count s (placing y ws) ≡ answer gates m count t (placing z vs)) × Alike (next gates m count s (placing y ws)) (next gates m count t (placing z vs))
  both_placed s t a y z ws vs e =
      let i : y ≡ z = cc in
      let h : map (blank m.small) ws ≡ map (blank m.small) vs = cc in
      subst (λ (k : ℕ). (answer gates m count s (placing y ws) ≡ answer gates m count t (placing k vs)) × Alike (next gates m count s (placing y ws)) (next gates m count t (placing k vs))) i
      (ap verdict (places s t a y ws vs h), put-alike s t a y ws vs h)

  one_shape : (s t : State) → Alike s t → (c d : Asked) → OnCall (LongGate gates m) c → shape m.small c ≡ shape m.small d
      → (answer gates m count s c ≡ answer gates m count t d) × Alike (next gates m count s c) (next gates m count t d)
  one_shape s t a c d long e = elim (view c) [
    | inl p ↦ elim (view d) [
      | inl q ↦
          subst (λ (v : Asked). (answer gates m count s v ≡ answer gates m count t d) × Alike (next gates m count s v) (next gates m count t d)) (sym p.1.1)
          (subst (λ (v : Asked). (answer gates m count s (placing p.0 p.1.0) ≡ answer gates m count t v) × Alike (next gates m count s (placing p.0 p.1.0)) (next gates m count t v)) (sym q.1.1)
          (both_placed s t a p.0 q.0 p.1.0 q.1.0 (ap (shape m.small) (sym p.1.1) ∙ e ∙ ap (shape m.small) q.1.1)))
      | inr q ↦ no_shape (let h : placed p.0 (map (blank m.small) p.1.0) ≡ other d = ap (shape m.small) (sym p.1.1) ∙ e ∙ q in cc)
    ]
    | inr p ↦ elim (view d) [
      | inl q ↦ no_shape (let h : other c ≡ placed q.0 (map (blank m.small) q.1.0) = sym p ∙ e ∙ ap (shape m.small) q.1.1 in cc)
      | inr q ↦ (let h : other c ≡ other d = sym p ∙ e ∙ q in let i : c ≡ d = cc in
          subst (λ (v : Asked). (answer gates m count s c ≡ answer gates m count t v) × Alike (next gates m count s c) (next gates m count t v)) i (same_step s t a c long))
    ]
  ]

  same_answers : (s t : State) → Alike s t → (cs ds : List Asked) → OnCalls (LongGate gates m) cs → map (shape m.small) cs ≡ map (shape m.small) ds
      → answers gates m count s cs ≡ answers gates m count t ds
  unfolding answers
  same_answers s t a [] [] long e = refl
  same_answers s t a [] (d ∷ ds) long e = no_shape (cc)
  same_answers s t a (c ∷ cs) [] long e = no_shape (cc)
  same_answers s t a (c ∷ cs) (d ∷ ds) long e =
      let first : shape m.small c ≡ shape m.small d = cc in
      let rest : map (shape m.small) cs ≡ map (shape m.small) ds = cc in
      let p = one_shape s t a c d long.0 first in
      let here : answer gates m count s c ≡ answer gates m count t d = p.0 in
      let more : answers gates m count (next gates m count s c) cs ≡ answers gates m count (next gates m count t d) ds =
      same_answers (next gates m count s c) (next gates m count t d) p.1 cs ds long.1 rest in
      cc

  pub same_shapes : (R : ℕ) (cs ds : List Asked) → OnCalls (LongGate gates m) cs → map (shape m.small) cs ≡ map (shape m.small) ds
      → answers gates m count (fresh m R) cs ≡ answers gates m count (fresh m R) ds
  same_shapes R cs ds long e = same_answers (fresh m R) (fresh m R) (record { counts = refl; marked = refl; lengths = refl }) cs ds long e

pub words_decide_nothing_lem : WordsDecideNothing
words_decide_nothing_lem =
    record {
      places = λ m s t a. places (λ l xs ys. xs) m 0 s t a;
      placed = λ m s t a. put-alike (λ l xs ys. xs) m 0 s t a;
      reads = λ m s t a. reads (λ l xs ys. xs) m 0 s t a;
      operates = λ m s t a. memory-same (λ l xs ys. xs) m 0 s t a;
      operated = λ gates m s t a. operated gates m 0 s t a;
    }
