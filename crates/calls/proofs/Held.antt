-- What filled registers hold, call by call, in any sense of what words of a bit are that remainders and opposite words keep.
use Rattle.std.proofs.Common.{◌≡◌, ℕ, suc, ◌+◌, ◌<◌, Bool, true, false, not, List, length, get_or, set, replicate, ℤ, is_some, Some, None, Option, sym, refl, ap, ◌∙◌, subst, inl, inr, arith}
use Rattle.std.proofs.lemmas.List.{get_or-set_same, get_or-set_other, get_or-replicate}
use Rattle.std.proofs.lemmas.Bool.{cases_eq}
use Rattle.faults.specs.declared.fault.Fault.{Fault}
use Rattle.algebra.specs.Gates.{invert}
use Rattle.algebra.specs.Polys.{Poly}
use Rattle.algebra.specs.Words.{coeffs}
use Rattle.algebra.proofs.Cong.{cong_trans}
use Rattle.algebra.proofs.Opening.{invert_holds}
use Rattle.algebra.proofs.Phases.{phase_alike}
use Rattle.algebra.proofs.Words.{words_alike, words_below}
use Rattle.set.specs.declared.numbers.Numbers.{Numbers}
use Rattle.sweeps.specs.Fit.{entries}
use Rattle.gate.specs.Letters.{bit_of}
use Rattle.gate.specs.Bits.{HoldsBit}
use Rattle.registers.specs.declared.op.Op.{Op}
use Rattle.registers.specs.declared.op.Op.TheVariants.{Gate, Invert, Copy, Clear}
use Rattle.registers.specs.Registers.{wide, row_at, put_row, remainders, opposite}
use Rattle.registers.specs.Marks.{State}
use Rattle.registers.specs.Steps.{Gates, either, fresh, written, done_place, refuse_place, next_place, refuse_read, words_read, named, used, done_op, refuse_op}
use Rattle.registers.proofs.Accepted.{Ready, place_accepted, read_accepted, op_accepted}
use Rattle.registers.proofs.Memory.{row_fits, put_same, put_other}
use Rattle.registers.proofs.Opposite.{opposite_long, remainders_long}
use Rattle.calls.specs.Plain.{Entries, the_bit, plain_place, plain_op, entered, unless_refused, bits_place, bits_op}
use Rattle.calls.specs.Gated.{OnGate, RightGate}
use Rattle.calls.specs.Followed.{Tracks, next_op}
use Rattle.calls.specs.Held.{HoldsUnder, HeldAs, BitsHeld}
use Rattle.calls.proofs.Lowest.{marks_at}
use Rattle.calls.proofs.Followed.{places, operates, long_row}

-- remainders have the bit, and opposite words the opposite bit
pub record Kept (m : Numbers) (P : Bool → List ℕ → Type 0) : Type 0 where
  pub copied : (b : Bool) (ws : List ℕ) → P b ws → P b (remainders m ws)
  pub inverted : (b : Bool) (ws : List ℕ) → P b ws → P (not b) (opposite m ws)

no_entry : {A : Type 0} (b : Bool) (o : Option Bool) → o ≡ None → o ≡ Some b → A
no_entry b o e h = absurd (let z : ◌≡◌ {A = ℕ} 0 1 = cc in omega arith)

-- an entry that is not empty
entry_of : (o : Option Bool) → is_some o ≡ true → o ≡ Some (the_bit o)
entry_of None e = absurd (let z : ◌≡◌ {A = ℕ} 0 1 = cc in omega arith)
entry_of (Some b) e = refl

module _ (m : Numbers) (P : Bool → List ℕ → Type 0) (st : State) (bits : Entries) (t : Tracks m st bits) (held : HeldAs m P st bits) where
  -- a marked register has a bit, and words of that bit
  full_entry : (x : ℕ) → get_or st.marks x false ≡ true → get_or bits x None ≡ Some (the_bit (get_or bits x None))
  full_entry x e = entry_of (get_or bits x None) (sym (marks_at bits x) ∙ sym (ap (λ (l : List Bool). get_or l x false) t.same) ∙ e)

  full_held : (x : ℕ) → x < st.count → get_or st.marks x false ≡ true → P (the_bit (get_or bits x None)) (row_at (wide m) x st.words)
  full_held x l e = held x (the_bit (get_or bits x None)) l (full_entry x e)

  pub either_held : (done : State) (new : Entries) (r q : Option Fault) → r ≡ q → (r ≡ None → HeldAs m P done new)
      → HeldAs m P (either r st done) (unless_refused q bits new)
  either_held done new None None e go = go refl
  either_held done new (Some f) (Some g) e go = held
  either_held done new None (Some g) e go = absurd (let z : ◌≡◌ {A = ℕ} 0 1 = cc in omega arith)
  either_held done new (Some f) None e go = absurd (let z : ◌≡◌ {A = ℕ} 0 1 = cc in omega arith)

  -- register z written and entered
  put_on : (z : ℕ) (row : List ℕ) (bit : Bool) → z < st.count → length row ≡ wide m → P bit row → HeldAs m P (written m st z row) (set bits z (Some bit))
  put_on z row bit low long h x b l e =
      let fits = row_fits z (wide m) (wide m) st.count (length st.words) refl t.whole low in
      elim (cases_eq x z) [
        | inl i ↦
            (let here : get_or (set bits z (Some bit)) z None ≡ Some bit = get_or-set_same bits z (Some bit) None (omega (arith, t.entries)) in
            let there : get_or (set bits z (Some bit)) z None ≡ Some b = ap (λ (k : ℕ). get_or (set bits z (Some bit)) k None) (sym i) ∙ e in
            let bs : bit ≡ b = cc in
            let rs : row ≡ row_at (wide m) x (put_row m z st.words row) =
            sym (put_same (wide m) z st.words row fits long) ∙ ap (λ (k : ℕ). row_at (wide m) k (put_row m z st.words row)) (sym i) in
            subst (λ (c : Bool). P c (row_at (wide m) x (put_row m z st.words row))) bs (subst (P bit) rs h))
        | inr n ↦
            (let before : get_or bits x None ≡ Some b = sym (get_or-set_other bits z x (Some bit) None n) ∙ e in
            subst (P b) (sym (put_other (wide m) z st.words row fits long x n)) (held x b l before))
      ]

  pub held_placed : (z : ℕ) (ws : List ℕ) (bit : Bool) → (refuse_place m st z ws ≡ None → P bit ws)
      → HeldAs m P (next_place m st z ws) (bits_place (wide m) m.small st.count bits z ws bit)
  held_placed z ws bit holds =
      either_held (done_place m st z ws) (set bits z (Some bit)) (refuse_place m st z ws) (plain_place (wide m) m.small st.count z ws) (places m st bits t z ws)
      (λ e. (let a = place_accepted m st z ws e in put_on z ws bit (a.ready.low z (inl refl)) a.long (holds e)))

  cleared : (gates : Gates) (z : ℕ) → z < st.count → HeldAs m P (done_op gates m st (Clear z)) (set bits z None)
  cleared gates z low x b l e = elim (cases_eq x z) [
    | inl i ↦ no_entry b (get_or (set bits z None) x None)
        (ap (λ (k : ℕ). get_or (set bits z None) k None) i ∙ get_or-set_same bits z None None (omega (arith, t.entries))) e
    | inr n ↦ held x b l (sym (get_or-set_other bits z x None None n) ∙ e)
  ]

  module _ (kept : Kept m P) where
    pub held_done : (gates : Gates) (op : Op) → OnGate (RightGate gates m P) op → Ready m st (named op) (used op) → HeldAs m P (done_op gates m st op) (entered bits op)
    held_done gates (Gate l x y z) right a =
        let xs : List ℕ = row_at (wide m) x st.words in
        let ys : List ℕ = row_at (wide m) y st.words in
        let p = long_row m st bits t x (a.low x (inl refl)) in
        let q = long_row m st bits t y (a.low y (inr (inl refl))) in
        put_on z (gates l xs ys) (bit_of l (the_bit (get_or bits x None)) (the_bit (get_or bits y None))) (a.low z (inr (inr (inl refl)))) (right.0 xs ys p q)
        (right.1 xs ys (the_bit (get_or bits x None)) (the_bit (get_or bits y None)) p q
        (full_held x (a.low x (inl refl)) (a.full x (inl refl))) (full_held y (a.low y (inr (inl refl))) (a.full y (inr (inl refl)))))
    held_done gates (Invert x z) right a =
        put_on z (opposite m (row_at (wide m) x st.words)) (not (the_bit (get_or bits x None))) (a.low z (inr (inl refl)))
        (opposite_long m (row_at (wide m) x st.words))
        (kept.inverted (the_bit (get_or bits x None)) (row_at (wide m) x st.words) (full_held x (a.low x (inl refl)) (a.full x (inl refl))))
    held_done gates (Copy x z) right a =
        put_on z (remainders m (row_at (wide m) x st.words)) (the_bit (get_or bits x None)) (a.low z (inr (inl refl)))
        (remainders_long m (row_at (wide m) x st.words))
        (kept.copied (the_bit (get_or bits x None)) (row_at (wide m) x st.words) (full_held x (a.low x (inl refl)) (a.full x (inl refl))))
    held_done gates (Clear z) right a = cleared gates z (a.low z (inl refl))

    held_operated : (gates : Gates) (op : Op) → OnGate (RightGate gates m P) op → HeldAs m P (next_op gates m st op) (bits_op st.count bits op)
    held_operated gates op right =
        either_held (done_op gates m st op) (entered bits op) (refuse_op m st op) (plain_op st.count bits op) (operates m st bits t op)
        (λ e. held_done gates op right (op_accepted m st op e))

    pub held_read : (x have : ℕ) → refuse_read m st x have ≡ None → (b : Bool) × ((get_or bits x None ≡ Some b) × P b (words_read m st x))
    held_read x have e =
        let a = read_accepted m st x have e in
        let f = a.ready.full x (inl refl) in (
          the_bit (get_or bits x None),
          (full_entry x f, kept.copied (the_bit (get_or bits x None)) (row_at (wide m) x st.words) (full_held x (a.ready.low x (inl refl)) f)),
        )

pub held_begins : (m : Numbers) (P : Bool → List ℕ → Type 0) (R : ℕ) → HeldAs m P (fresh m R) (replicate R None)
held_begins m P R x b l e = no_entry b (get_or (replicate R None) x None) (get_or-replicate R x None None l) e

-- words that hold a bit under a secret
module _ (m : Numbers) (secret : Poly) (some : 0 < m.small) where
  remainders_hold : (b : Bool) (ws : List ℕ) → HoldsUnder m secret b ws → HoldsUnder m secret b (remainders m ws)
  remainders_hold b ws h =
      record {
        noise = h.noise;
        is = cong_trans m.small
            (phase_alike m.dimension secret m.small (coeffs (remainders m ws)) (coeffs ws)
            (λ k l. words_alike (wide m) m.small (coeffs ws) some k (omega arith)))
            h.is;
        small = h.small;
      }

  opposite_holds : (b : Bool) (ws : List ℕ) → HoldsUnder m secret b ws → HoldsUnder m secret (not b) (opposite m ws)
  opposite_holds true ws h = invert_holds m.dimension m.small m.bound 1 secret ws some (omega arith) h
  opposite_holds false ws h = invert_holds m.dimension m.small m.bound 0 secret ws some (omega arith) h

  pub kept_under : Kept m (HoldsUnder m secret)
  kept_under = record { copied = remainders_hold; inverted = opposite_holds }

pub bits_held : BitsHeld
bits_held =
    record {
      begins = λ m secret count. held_begins m (HoldsUnder m secret) count;
      placed = λ m secret s bits t h. held_placed m (HoldsUnder m secret) s bits t h;
      operated = λ gates m secret s bits some t h op right.
          held_operated m (HoldsUnder m secret) s bits t h (kept_under m secret some) gates op right;
      read = λ m secret s bits some t h. held_read m (HoldsUnder m secret) s bits t h (kept_under m secret some);
    }

-- words below q that hold a bit with noise at most β
pub record Keeps (m : Numbers) (s : List ℤ) (b : Bool) (ws : List ℕ) : Type 0 where
  pub holds : HoldsBit m m.bound s b ws
  pub low : (k : ℕ) → k < wide m → get_or ws k 0 < m.small

inverted_low : (n q : ℕ) (xs : List ℕ) → 0 < q → (k : ℕ) → k < n + 1 → get_or (invert n q xs) k 0 < q
unfolding invert
inverted_low n q xs h k l = words_below (suc n) q _ h k (omega arith)

pub kept_low : (m : Numbers) (s : List ℤ) → 0 < m.small → Kept m (Keeps m s)
kept_low m s some =
    record {
      copied = λ b ws h. record { holds = remainders_hold m (entries s) some b ws h.holds; low = λ k l. words_below (wide m) m.small (coeffs ws) some k l };
      inverted = λ b ws h. record { holds = opposite_holds m (entries s) some b ws h.holds; low = λ k l. inverted_low m.dimension m.small ws some k l };
    }
