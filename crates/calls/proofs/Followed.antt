-- The machine of plain bits answers each call as the file does, and goes on alike.
use Rattle.std.proofs.Common.{◌≡◌, ℕ, zero, suc, ◌+◌, ◌*◌, ◌<◌, min, Bool, true, false, not, eqb, List, [], ◌∷◌, map, length, get_or, set, replicate, is_some, Some, None, Option, sym, refl, ap, ◌∙◌, inl, inr, arith}
use Rattle.std.proofs.lemmas.List.{length-replicate, length-set, map-set}
use Rattle.std.proofs.lemmas.Bool.{cases_lt, ne_eqb}
use Rattle.faults.specs.declared.fault.Fault.{Fault}
use Rattle.faults.specs.declared.fault.Fault.TheVariants.{Length}
use Rattle.faults.specs.declared.fault.Layer.{Layer}
use Rattle.faults.specs.declared.fault.Layer.TheVariants.{File, Runner}
use Rattle.faults.specs.Least.{or_else, unless}
use Rattle.set.specs.declared.numbers.Numbers.{Numbers}
use Rattle.gate.specs.Letters.{bit_of}
use Rattle.gate.specs.Lengths.{start_length, selectors_length, rows_length, gate_work}
use Rattle.gate.proofs.Answers.{right_length, right_then}
use Rattle.registers.specs.declared.lists.Lists.{Lists}
use Rattle.registers.specs.declared.op.Op.{Op}
use Rattle.registers.specs.declared.op.Op.TheVariants.{Gate, Invert, Copy, Clear}
use Rattle.registers.specs.Registers.{wide, row_at, remainders, opposite}
use Rattle.registers.specs.Marks.{State}
use Rattle.registers.specs.Steps.{Gates, either, bad_list, bad_keys, bad_work, bad_memory, bad_length, bad_registers, gate_lists, fresh, written, done_place, refuse_place, next_place, refuse_read, named, used, done_op, refuse_op}
use Rattle.registers.proofs.Accepted.{Ready, place_accepted, op_accepted, gate_accepted}
use Rattle.registers.proofs.Memory.{row_fits, row_long, put_long}
use Rattle.registers.proofs.Refusals.{no_more}
use Rattle.registers.proofs.Opposite.{opposite_long, remainders_long}
use Rattle.calls.specs.declared.call.Lent.{Lent}
use Rattle.calls.specs.Plain.{Entries, the_bit, first_row, row7, row10, row11, row12, handed, plain_place, plain_read, plain_op, plain_call, plain_lists, entered, unless_refused, bits_place, bits_op}
use Rattle.calls.specs.Calls.{lent_lists, refuse_by, refuse_orders}
use Rattle.calls.specs.Gated.{OnGate, LongGate}
use Rattle.calls.specs.Followed.{Tracks, next_op, PlainFollows}
use Rattle.calls.proofs.Lowest.{row10_same, row11_same, row12_same}

-- rows in order
rows1 : (a : Option Fault) → first_row (a ∷ []) ≡ a
rows1 None = refl
rows1 (Some f) = refl

rows2 : (a b : Option Fault) → first_row (a ∷ b ∷ []) ≡ or_else a b
rows2 None b = rows1 b
rows2 (Some f) b = refl

rows3 : (a b c : Option Fault) → first_row (a ∷ b ∷ c ∷ []) ≡ or_else a (or_else b c)
rows3 None b c = rows2 b c
rows3 (Some f) b c = refl

rows5 : (a b c d e : Option Fault) → first_row (a ∷ b ∷ c ∷ d ∷ e ∷ []) ≡ or_else (or_else a (or_else b c)) (or_else d e)
rows5 None None c d e = rows3 c d e ∙ (elim c as (λ v. or_else v (or_else d e) ≡ or_else v (or_else d e)) [ None ↦ refl | Some f ↦ refl ])
rows5 None (Some f) c d e = refl
rows5 (Some f) b c d e = refl

both : {a b c d : Option Fault} → a ≡ c → b ≡ d → or_else a b ≡ or_else c d
both {a} {b} {c} {d} e h = ap (λ (x : Option Fault). or_else x b) e ∙ ap (or_else c) h

module _ (m : Numbers) (s : State) (bits : Entries) (t : Tracks m s bits) where
  past_memory : (i : ℕ) (rest : Option Fault) → or_else (bad_memory i m s) rest ≡ rest
  past_memory i rest = right_then (length s.words) (s.count * wide m) (Length i File) rest t.whole

  pub registers : (names uses : List ℕ) → bad_registers s names uses ≡ first_row (row10 s.count names ∷ row11 bits uses ∷ [])
  registers names uses =
      both (sym (row10_same s.count names)) (sym (row11_same bits s.marks t.same uses))
      ∙ sym (rows2 (row10 s.count names) (row11 bits uses))

  pub places : (z : ℕ) (ws : List ℕ) → refuse_place m s z ws ≡ plain_place (wide m) m.small s.count z ws
  places z ws =
      let L : Option Fault = bad_length 0 (length ws) (wide m) in
      ap (or_else L) (past_memory 1 _)
      ∙ ap (or_else L) (both (sym (row10_same s.count (z ∷ []))) (sym (row12_same m.small ws)))
      ∙ sym (rows3 (row7 File 0 (length ws) (wide m)) (row10 s.count (z ∷ [])) (row12 m.small ws))

  pub reads : (x have : ℕ) → refuse_read m s x have ≡ plain_read (wide m) s.count bits x have
  reads x have =
      let L : Option Fault = bad_length 0 have (wide m) in
      ap (or_else L) (past_memory 1 (bad_registers s (x ∷ []) (x ∷ [])))
      ∙ ap (or_else L) (registers (x ∷ []) (x ∷ []) ∙ rows2 (row10 s.count (x ∷ [])) (row11 bits (x ∷ [])))
      ∙ sym (rows3 (row7 File 0 have (wide m)) (row10 s.count (x ∷ [])) (row11 bits (x ∷ [])))

  -- an operation on register memory alone
  pub operates : (op : Op) → refuse_op m s op ≡ plain_op s.count bits op
  operates (Gate l x y z) = past_memory 0 _ ∙ registers (x ∷ y ∷ z ∷ []) (x ∷ y ∷ [])
  operates (Invert x z) = past_memory 0 _ ∙ registers (x ∷ z ∷ []) (x ∷ [])
  operates (Copy x z) = past_memory 0 _ ∙ registers (x ∷ z ∷ []) (x ∷ [])
  operates (Clear z) = past_memory 0 _ ∙ registers (z ∷ []) (z ∷ [])

  keys_fit : (part : Layer) (i count : ℕ) (lent : Lent) → bad_keys part i m count (lent_lists m count lent) ≡ None
  keys_fit part i count lent =
      right_then (start_length m) (start_length m) (Length i part) _ refl
      ∙ right_then (selectors_length m count) (selectors_length m count) (Length (i + 1) part) _ refl
      ∙ right_length (rows_length m) (rows_length m) (Length (i + 2) part) refl

  -- key memory and register memory are right
  pub lent_lists_lem : (count : ℕ) (lent : Lent)
      → gate_lists m count (lent_lists m count lent) s
      ≡ or_else (row7 File 4 (handed m lent).small (wide m)) (or_else (row7 File 5 (handed m lent).work (gate_work m)) (row7 File 6 (handed m lent).scratch m.degree))
  lent_lists_lem count lent =
      right_then (start_length m) (start_length m) (Length 0 File) _ refl
      ∙ right_then (selectors_length m count) (selectors_length m count) (Length 1 File) _ refl
      ∙ right_then (rows_length m) (rows_length m) (Length 2 File) _ refl
      ∙ past_memory 3 _

  -- an operation as a call
  pub calls : (count : ℕ) (lent : Lent) (op : Op) → refuse_by m count (lent_lists m count lent) s op ≡ plain_call m s.count (handed m lent) bits op
  calls count lent (Gate l x y z) =
      both (lent_lists_lem count lent)
      (registers (x ∷ y ∷ z ∷ []) (x ∷ y ∷ []) ∙ rows2 (row10 s.count (x ∷ y ∷ z ∷ [])) (row11 bits (x ∷ y ∷ [])))
      ∙ sym (rows5 (row7 File 4 (handed m lent).small (wide m)) (row7 File 5 (handed m lent).work (gate_work m)) (row7 File 6 (handed m lent).scratch m.degree)
      (row10 s.count (x ∷ y ∷ z ∷ [])) (row11 bits (x ∷ y ∷ [])))
  calls count lent (Invert x z) = operates (Invert x z)
  calls count lent (Copy x z) = operates (Copy x z)
  calls count lent (Clear z) = operates (Clear z)

  pub order_lists : (count : ℕ) (lent : Lent) → refuse_orders m count (lent_lists m count lent) s ≡ plain_lists m (handed m lent)
  order_lists count lent =
      ap (λ (a : Option Fault). or_else a (or_else (bad_list Runner 4 (length s.words) (s.count * wide m)) (bad_work Runner 5 0 m (lent_lists m count lent)))) (keys_fit Runner 1 count lent)
      ∙ right_then (length s.words) (s.count * wide m) (Length 4 Runner) _ t.whole
      ∙ no_more m Runner 5 (lent_lists m count lent)
      ∙ sym (rows3 (row7 Runner 5 (handed m lent).small (wide m)) (row7 Runner 6 (handed m lent).work (gate_work m)) (row7 Runner 7 (handed m lent).scratch m.degree))

  -- an order, where all lists are right
  module _ (count : ℕ) (lists : Lists) (right : gate_lists m count lists s ≡ None) where
    pub orders : (op : Op) → refuse_by m count lists s op ≡ plain_op s.count bits op
    orders (Gate l x y z) = ap (λ (a : Option Fault). or_else a (bad_registers s (x ∷ y ∷ z ∷ []) (x ∷ y ∷ []))) right ∙ registers (x ∷ y ∷ z ∷ []) (x ∷ y ∷ [])
    orders (Invert x z) = operates (Invert x z)
    orders (Copy x z) = operates (Copy x z)
    orders (Clear z) = operates (Clear z)

  -- refused both, or accepted both
  pub either_way : (done : State) (new : Entries) (r q : Option Fault) → r ≡ q → (r ≡ None → Tracks m done new)
      → Tracks m (either r s done) (unless_refused q bits new)
  either_way done new None None e go = go refl
  either_way done new (Some f) (Some g) e go = t
  either_way done new None (Some g) e go = absurd (let z : ◌≡◌ {A = ℕ} 0 1 = cc in omega arith)
  either_way done new (Some f) None e go = absurd (let z : ◌≡◌ {A = ℕ} 0 1 = cc in omega arith)

  -- register z written and marked
  put_on : (z : ℕ) (row : List ℕ) (bit : Bool) → z < s.count → length row ≡ wide m → Tracks m (written m s z row) (set bits z (Some bit))
  put_on z row bit low long =
      record {
        whole = put_long (wide m) z s.words row (row_fits z (wide m) (wide m) s.count (length s.words) refl t.whole low) long ∙ t.whole;
        entries = length-set bits z (Some bit) ∙ t.entries;
        same = ap (λ (l : List Bool). set l z true) t.same ∙ sym (map-set (is_some {T = Bool}) bits z (Some bit));
      }

  pub placed : (z : ℕ) (ws : List ℕ) (bit : Bool) → Tracks m (next_place m s z ws) (bits_place (wide m) m.small s.count bits z ws bit)
  placed z ws bit =
      either_way (done_place m s z ws) (set bits z (Some bit)) (refuse_place m s z ws) (plain_place (wide m) m.small s.count z ws) (places z ws)
      (λ e. (let a = place_accepted m s z ws e in put_on z ws bit (a.ready.low z (inl refl)) a.long))

  -- a register has n + 1 words
  pub long_row : (x : ℕ) → x < s.count → length (row_at (wide m) x s.words) ≡ wide m
  long_row x low = row_long (wide m) s.words x (row_fits x (wide m) (wide m) s.count (length s.words) refl t.whole low)

  pub done : (gates : Gates) (op : Op) → OnGate (LongGate gates m) op → Ready m s (named op) (used op) → Tracks m (done_op gates m s op) (entered bits op)
  done gates (Gate l x y z) long a =
      put_on z (gates l (row_at (wide m) x s.words) (row_at (wide m) y s.words)) (bit_of l (the_bit (get_or bits x None)) (the_bit (get_or bits y None)))
      (a.low z (inr (inr (inl refl))))
      (long (row_at (wide m) x s.words) (row_at (wide m) y s.words) (long_row x (a.low x (inl refl))) (long_row y (a.low y (inr (inl refl)))))
  done gates (Invert x z) long a =
      put_on z (opposite m (row_at (wide m) x s.words)) (not (the_bit (get_or bits x None))) (a.low z (inr (inl refl))) (opposite_long m (row_at (wide m) x s.words))
  done gates (Copy x z) long a =
      put_on z (remainders m (row_at (wide m) x s.words)) (the_bit (get_or bits x None)) (a.low z (inr (inl refl))) (remainders_long m (row_at (wide m) x s.words))
  done gates (Clear z) long a =
      record {
        whole = t.whole;
        entries = length-set bits z None ∙ t.entries;
        same = ap (λ (l : List Bool). set l z false) t.same ∙ sym (map-set (is_some {T = Bool}) bits z None);
      }

  operated : (gates : Gates) (op : Op) → OnGate (LongGate gates m) op → Tracks m (next_op gates m s op) (bits_op s.count bits op)
  operated gates op long =
      either_way (done_op gates m s op) (entered bits op) (refuse_op m s op) (plain_op s.count bits op) (operates op)
      (λ e. done gates op long (op_accepted m s op e))

-- what an operation that is not refused counts on
pub ready_by : (m : Numbers) (count : ℕ) (lists : Lists) (s : State) (op : Op) → refuse_by m count lists s op ≡ None → Ready m s (named op) (used op)
ready_by m count lists s (Gate l x y z) e = (gate_accepted m count lists s x y z e).ready
ready_by m count lists s (Invert x z) e = op_accepted m s (Invert x z) e
ready_by m count lists s (Copy x z) e = op_accepted m s (Copy x z) e
ready_by m count lists s (Clear z) e = op_accepted m s (Clear z) e

-- R stays
pub done_count : (gates : Gates) (m : Numbers) (s : State) (op : Op) → (done_op gates m s op).count ≡ s.count
done_count gates m s (Gate l x y z) = refl
done_count gates m s (Invert x z) = refl
done_count gates m s (Copy x z) = refl
done_count gates m s (Clear z) = refl

no_marks : (n : ℕ) → replicate n false ≡ map (is_some {T = Bool}) (replicate n None)
no_marks zero = refl
no_marks (suc n) = ap (λ (l : List Bool). false ∷ l) (no_marks n)

pub begins : (m : Numbers) (R : ℕ) → Tracks m (fresh m R) (replicate R None)
begins m R = record { whole = length-replicate (R * wide m) 0; entries = length-replicate R None; same = no_marks R }

-- a length that is cut to w + 1 is w no more often
cut_same : (have w : ℕ) → eqb (min have (w + 1)) w ≡ eqb have w
cut_same have w = elim (cases_lt w have) [
  | inl h ↦ ne_eqb (min have (w + 1)) w (λ e. omega arith) ∙ sym (ne_eqb have w (λ e. omega arith))
  | inr h ↦ (let e : min have (w + 1) ≡ have = omega arith in ap (λ (k : ℕ). eqb k w) e)
]

cut : (m : Numbers) (s : State) (x have : ℕ) → refuse_read m s x (min have (wide m + 1)) ≡ refuse_read m s x have
cut m s x have =
    ap (λ (b : Bool). or_else (unless b (Length 0 File)) (or_else (bad_memory 1 m s) (bad_registers s (x ∷ []) (x ∷ [])))) (cut_same have (wide m))

pub plain_follows : PlainFollows
plain_follows =
    record {
      begins = begins;
      places = places;
      placed = placed;
      reads = reads;
      operates = operates;
      operated = λ gates m s bits t op long. operated m s bits t gates op long;
      cut = cut;
      calls = calls;
      orders = order_lists;
    }
