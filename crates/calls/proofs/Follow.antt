-- Registers follow bits, over every list of calls.
use Rattle.std.proofs.Common.{◌≡◌, ℕ, suc, ◌+◌, ◌*◌, ◌<◌, min, Bool, List, [], ◌∷◌, ◌++◌, length, get_or, take, replicate, ℤ, Some, None, Option, sym, ap, ◌∙◌, subst, inl, inr, refl, arith}
use Rattle.std.proofs.lemmas.List.{length-replicate, length-append, take_at, drop_at, get_or_past}
use Rattle.std.proofs.lemmas.Bool.{cases_lt}
use Rattle.faults.specs.declared.fault.Fault.{Fault}
use Rattle.algebra.proofs.Rounding.{narrow_below}
use Rattle.set.specs.declared.numbers.Numbers.{Numbers}
use Rattle.set.specs.declared.within.Within.{Within}
use Rattle.set.specs.declared.checked.Set.{Set}
use Rattle.sweeps.specs.Fit.{SmallSecret}
use Rattle.sweeps.specs.Forms.{ArePolys}
use Rattle.sweeps.specs.Meaning.{Means}
use Rattle.gate.specs.declared.letter.Letter.{Letter}
use Rattle.gate.specs.Bits.{HoldsBit, held_of}
use Rattle.gate.specs.Gates.{gate_of, settled_of, KeysFit}
use Rattle.gate.proofs.Holding.{answers as gate-answers, gate_long}
use Rattle.gate.proofs.Opened.{bit_laws}
use Rattle.registers.specs.Registers.{wide, row_at}
use Rattle.registers.specs.Marks.{State}
use Rattle.registers.specs.Steps.{Gates, either, fresh, refuse_read, words_read}
use Rattle.registers.proofs.Accepted.{place_accepted}
use Rattle.registers.proofs.Memory.{row_long, row_fits}
use Rattle.registers.proofs.Opposite.{remainders_long}
use Rattle.calls.specs.Plain.{Entries, plain_place, plain_read}
use Rattle.calls.specs.Calls.{Asked, placing, reading, doing, ordering, next, slot}
use Rattle.calls.specs.Runs.{slots, left, run_of, plain_next, plain_left}
use Rattle.calls.specs.Promise.{gates_of, Quiet, Shows, ReadShows, ReadsShow, FollowsBits}
use Rattle.calls.specs.Gated.{RightGate}
use Rattle.calls.specs.Lists.{Sound, AllSound}
use Rattle.calls.proofs.Followed.{places, reads}
use Rattle.calls.proofs.Held.{Kept, Keeps, kept_low, held_read}
use Rattle.calls.proofs.Goes.{Goes, each_call, one_step, all_answers, all_left, begin}

-- a slot has n + 2 words
either_long : (r : Option Fault) (k : ℕ) (a b : List ℕ) → length a ≡ k → length b ≡ k → length (either r a b) ≡ k
either_long None k a b x y = y
either_long (Some f) k a b x y = x

slot_long : (gates : Gates) (m : Numbers) (count : ℕ) (st : State) (c : Asked) → length (slot gates m count st c) ≡ wide m + 1
slot_long gates m count st (placing z ws) = length-replicate (wide m + 1) 0
slot_long gates m count st (reading x have) =
    either_long (refuse_read m st x (min have (wide m + 1))) (wide m + 1) _ _ (length-replicate (wide m + 1) 0)
    (length-append (words_read m st x) (0 ∷ []) ∙ ap (λ (k : ℕ). k + 1) (remainders_long m (row_at (wide m) x st.words)))
slot_long gates m count st (doing o lent) = length-replicate (wide m + 1) 0
slot_long gates m count st (ordering bytes lent) = length-replicate (wide m + 1) 0

module _ (gates : Gates) (w : Within) (count R : ℕ) (s : List ℤ) (right : (l : Letter) → RightGate gates w.numbers (Keeps w.numbers s) l) where
  some : 0 < w.numbers.small
  some = let h = w.moduli.0 in omega arith

  kept : Kept w.numbers (Keeps w.numbers s)
  kept = kept_low w.numbers s some

  abbrev Any : Letter → Type 0
  Any l = Unit {0}

  right_any : (l : Letter) → Any l → RightGate gates w.numbers (Keeps w.numbers s) l
  right_any l u = right l

  -- both machines side by side, with words below q
  abbrev Both : State → Entries → Type 0
  Both st bits = Goes gates w.numbers count R (Keeps w.numbers s) kept (held_of w.numbers s) Any right_any st bits

  step : (st : State) (bits : Entries) → Both st bits → (c : Asked) → Sound gates w.numbers count (Keeps w.numbers s) (held_of w.numbers s) st c
      → Both (next gates w.numbers count st c) (plain_next (held_of w.numbers s) w.numbers R bits c)
  step st bits g c h =
      one_step gates w.numbers count R (Keeps w.numbers s) kept (held_of w.numbers s) Any right_any st bits g c (each_call Any (λ l. tt) (c ∷ [])).0 h

  told_bit : (ws : List ℕ) → (b : Bool) × HoldsBit w.numbers w.numbers.bound s b ws → HoldsBit w.numbers w.numbers.bound s (held_of w.numbers s ws) ws
  told_bit ws h =
      subst (λ (b : Bool). HoldsBit w.numbers w.numbers.bound s b ws)
      (sym (bit_laws.held w s ws h.0 (bit_laws.more w s ws h.0 w.numbers.bound _ (bit_laws.room w).0 h.1))) h.1

  -- quiet ciphertexts have the bit that is told of them
  quiet_first : (st : State) (bits : Entries) → Both st bits → (c : Asked) (cs : List Asked) → Quiet w.numbers R s (c ∷ cs)
      → Sound gates w.numbers count (Keeps w.numbers s) (held_of w.numbers s) st c × Quiet w.numbers R s cs
  quiet_first st bits g (placing z ws) cs q =
      let m = w.numbers in (
        λ e.
            let a = place_accepted m st z ws e in
            let none : plain_place (wide w.numbers) w.numbers.small R z ws ≡ None =
            subst (λ (k : ℕ). plain_place (wide w.numbers) w.numbers.small k z ws ≡ None) g.counted (sym (places m st bits g.tracked z ws) ∙ e) in
            record { holds = told_bit ws (q.0 none); low = λ k l. a.small k (omega (arith, a.long)) },
        q.1,
      )
  quiet_first st bits g (reading x have) cs q = (tt, q)
  quiet_first st bits g (doing o lent) cs q = (tt, q)
  quiet_first st bits g (ordering bytes lent) cs q = (tt, q)

  quiet_sound : (st : State) (bits : Entries) → Both st bits → (cs : List Asked) → Quiet w.numbers R s cs
      → AllSound gates w.numbers count (Keeps w.numbers s) (held_of w.numbers s) st cs
  quiet_sound st bits g [] q = tt
  quiet_sound st bits g (c ∷ cs) q =
      let h = quiet_first st bits g c cs q in
      (h.0, quiet_sound (next gates w.numbers count st c) (plain_next (held_of w.numbers s) w.numbers R bits c) (step st bits g c h.0) cs h.1)

  -- words that keep a bit show it
  module _ (small : SmallSecret w.numbers s) where
    shows : (b : Bool) (ws : List ℕ) → length ws ≡ wide w.numbers → Keeps w.numbers s b ws → Shows w.numbers R s b ws
    shows b ws long h = (
      h.holds,
      bit_laws.opens w s ws b w.numbers.bound small long (λ k l. h.low k (omega (arith, long)))
          (let r = (bit_laws.room w).0 in let q = (bit_laws.room w).1 in omega arith) h.holds,
    )

    shown_read : (st : State) (bits : Entries) → Both st bits → (x have : ℕ) → ReadShows w.numbers R s bits (reading x have) (slot gates w.numbers count st (reading x have))
    shown_read st bits g x have e =
        let m = w.numbers in
        let len : ℕ = min have (wide m + 1) in
        let none : refuse_read w.numbers st x (min have (wide w.numbers + 1)) ≡ None =
        subst (λ (k : ℕ). refuse_read w.numbers st x (min have (wide w.numbers + 1)) ≡ plain_read (wide w.numbers) k bits x (min have (wide w.numbers + 1)))
        g.counted (reads m st bits g.tracked x len) ∙ e in
        let h = held_read w.numbers (Keeps w.numbers s) st bits g.tracked g.held kept x len none in
        let words : words_read w.numbers st x ≡ take (wide w.numbers) (slot gates w.numbers count st (reading x have)) =
        sym (ap (λ (r : Option Fault). take (wide m) (either r (replicate (wide m + 1) 0) (words_read m st x ++ 0 ∷ []))) none
        ∙ take_at (words_read m st x) (0 ∷ []) (wide m) (remainders_long m (row_at (wide m) x st.words))) in
        (h.0, (h.1.0, subst (Shows w.numbers R s h.0) words (shows h.0 (words_read m st x) (remainders_long m (row_at (wide m) x st.words)) h.1.1)))

    read-shows : (st : State) (bits : Entries) → Both st bits → (c : Asked) → ReadShows w.numbers R s bits c (slot gates w.numbers count st c)
    read-shows st bits g (placing z ws) = tt
    read-shows st bits g (reading x have) = shown_read st bits g x have
    read-shows st bits g (doing o lent) = tt
    read-shows st bits g (ordering bytes lent) = tt

    all_read : (st : State) (bits : Entries) → Both st bits → (cs : List Asked) → Quiet w.numbers R s cs
        → ReadsShow w.numbers R s bits cs (slots gates w.numbers count st cs)
    unfolding slots
    all_read st bits g [] q = tt
    all_read st bits g (c ∷ cs) q =
        let h = quiet_first st bits g c cs q in
        let here = slot gates w.numbers count st c in
        let rest = slots gates w.numbers count (next gates w.numbers count st c) cs in (
          subst (ReadShows w.numbers R s bits c) (sym (take_at here rest (wide w.numbers + 1) (slot_long gates w.numbers count st c))) (read-shows st bits g c),
          subst (ReadsShow w.numbers R s (plain_next (held_of w.numbers s) w.numbers R bits c) cs) (sym (drop_at here rest (wide w.numbers + 1) (slot_long gates w.numbers count st c)))
              (all_read (next gates w.numbers count st c) (plain_next (held_of w.numbers s) w.numbers R bits c) (step st bits g c h.0) cs h.1),
        )

    -- an entry that is a bit is one of R
    within : (st : State) (bits : Entries) → Both st bits → (x : ℕ) (b : Bool) → get_or bits x None ≡ Some b → x < st.count
    within st bits g x b e = elim (cases_lt x st.count) [
      | inl l ↦ l
      | inr h ↦ absurd (let n : get_or bits x None ≡ None = get_or_past bits x None (omega (arith, g.tracked.entries)) in let z : ◌≡◌ {A = ℕ} 0 1 = cc in omega arith)
    ]

    pub follows : (cs : List Asked) → Quiet w.numbers R s cs → FollowsBits w.numbers R s cs (run_of gates w.numbers count R cs)
    follows cs q =
        let m = w.numbers in
        let first : Both (fresh w.numbers R) (replicate R None) = begin gates m count R (Keeps m s) kept (held_of m s) Any right_any in
        let p = each_call Any (λ l. tt) cs in
        let sound = quiet_sound (fresh m R) (replicate R None) first cs q in
        let g = all_left gates m count R (Keeps m s) kept (held_of m s) Any right_any (fresh m R) (replicate R None) first cs p sound in
        record {
          answered = all_answers gates m count R (Keeps m s) kept (held_of m s) Any right_any (fresh m R) (replicate R None) first cs p sound;
          filled = g.tracked.same;
          shown = λ x b e.
              let l = within (left gates w.numbers count (fresh w.numbers R) cs) (plain_left (held_of w.numbers s) w.numbers R (replicate R None) cs) g x b e in
              shows b (row_at (wide w.numbers) x (left gates w.numbers count (fresh w.numbers R) cs).words)
              (row_long (wide w.numbers) (left gates w.numbers count (fresh w.numbers R) cs).words x
              (row_fits x (wide w.numbers) (wide w.numbers) (left gates w.numbers count (fresh w.numbers R) cs).count _ refl g.tracked.whole l))
              (g.held x b l e);
          read = all_read (fresh m R) (replicate R None) first cs q;
        }

-- the gates of a sweep are right under secrets that its keys fit
gate_low : (defined : Numbers → List ℕ → List (List ℕ) → List ℕ → List ℕ) (n : Numbers) (l : Letter) (start keys : List (List ℕ)) (rows xs ys : List ℕ)
    → 0 < n.small → (k : ℕ) → k < wide n → get_or (gate_of defined n l start keys rows xs ys) k 0 < n.small
unfolding gate_of settled_of
gate_low defined n l start keys rows xs ys some k h = narrow_below (suc n.dimension) n.switch n.small _ some k (omega arith)

pub gates_right : (defined : Numbers → List ℕ → List (List ℕ) → List ℕ → List ℕ) (noise count : Within → ℕ) (message : Within → List ℤ → ℕ → List ℕ)
    → Means defined noise count message → (set : Set) (start keys : List (List ℕ)) (rows : List ℕ)
    → length keys ≡ count set.within * set.within.numbers.digits → ArePolys set.within.numbers.degree set.within.numbers.modulus keys
    → (f s : List ℤ) → set.stated ≡ noise set.within → KeysFit message count set.within f s start keys rows
    → (l : Letter) → RightGate (gates_of defined set.within.numbers start keys rows) set.within.numbers (Keeps set.within.numbers s) l
gates_right defined noise count message means set start keys rows long polys f s stated fit l =
    let w = set.within in
    let n = set.within.numbers in (
      λ xs ys hx hy. gate_long defined n l start keys rows xs ys,
      λ xs ys a b lx ly hx hy. record {
        holds = gate-answers defined noise count message means set l start keys rows xs ys long polys f s stated fit a b
            (bit_laws.more w s xs a n.bound _ (bit_laws.room w).0 hx.holds) (bit_laws.more w s ys b n.bound _ (bit_laws.room w).0 hy.holds);
        low = gate_low defined n l start keys rows xs ys (let h = w.moduli.0 in omega arith);
      },
    )
