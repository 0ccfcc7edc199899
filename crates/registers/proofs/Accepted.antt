-- What holds of a call that is not refused: none of its faults is true.
use Rattle.std.proofs.Common.{◌≡◌, ℕ, ◌*◌, ◌<◌, ◌≤◌, Bool, true, false, List, [], ◌∷◌, length, get_or, Some, None, Ok, Err, Option, refl, subst, inl, inr, arith}
use Rattle.std.proofs.lemmas.Bool.{cases_lt, cases_eq, cases_Bool}
use Rattle.faults.specs.declared.fault.Fault.{Fault}
use Rattle.faults.specs.declared.fault.Fault.TheVariants.{Length, Register, Empty, CipherWord}
use Rattle.faults.specs.declared.fault.Layer.TheVariants.{File}
use Rattle.faults.specs.Least.{Least, told}
use Rattle.set.specs.declared.numbers.Numbers.{Numbers}
use Rattle.registers.specs.declared.op.Op.{Op}
use Rattle.registers.specs.Registers.{wide}
use Rattle.registers.specs.Marks.{State}
use Rattle.gate.specs.Lengths.{start_length, selectors_length, rows_length, gate_work}
use Rattle.registers.specs.declared.lists.Lists.{Lists}
use Rattle.registers.specs.Steps.{either, named, used, refuse_new, refuse_place, refuse_read, refuse_op, refuse_gate}
use Rattle.registers.specs.Wrong.{Among, WrongNew, WrongPlace, WrongRead, WrongOp, WrongGate}
use Rattle.registers.proofs.Refusals.{new_least, place_least, read_least, op_least, gate_least}

-- a call that answered Ok was not refused
pub ok_none : (r : Option Fault) (u : Unit {0}) → Ok u ≡ told r → r ≡ None
ok_none None u e = refl
ok_none (Some f) u e = absurd (let z : ◌≡◌ {A = ℕ} 0 1 = cc in omega arith)

-- a refused call leaves what was
pub refused : {A : Type 0} (r : Option Fault) (f : Fault) (old new : A) → Err f ≡ told r → old ≡ either r old new
refused None f old new e = absurd (let z : ◌≡◌ {A = ℕ} 0 1 = cc in omega arith)
refused (Some g) f old new e = refl

-- two numbers are equal, one is below another, a mark is there: else there is a fault
equal : (a b : ℕ) → ((a ≡ b → ⊥) → ⊥) → a ≡ b
equal a b no-fault = elim (cases_eq a b) [ inl e ↦ e | inr n ↦ absurd (no-fault n) ]

below : (a b : ℕ) → (b ≤ a → ⊥) → a < b
below a b no-fault = elim (cases_lt a b) [ inl l ↦ l | inr h ↦ absurd (no-fault h) ]

marked : (b : Bool) → (b ≡ false → ⊥) → b ≡ true
marked b no-fault = elim (cases_Bool b) [ inl e ↦ e | inr e ↦ absurd (no-fault e) ]

-- what a call counts on whose registers are `names`, of which `uses` must be filled
pub record Ready (m : Numbers) (s : State) (names uses : List ℕ) : Type 0 where
  pub whole : length s.words ≡ s.count * wide m
  pub low : (x : ℕ) → Among x names → x < s.count
  pub full : (x : ℕ) → Among x uses → get_or s.marks x false ≡ true

pub op_accepted : (m : Numbers) (s : State) (op : Op) → refuse_op m s op ≡ None → Ready m s (named op) (used op)
op_accepted m s op e =
    let clean : (g : Fault) → WrongOp m s op g → ⊥ = subst (Least (WrongOp m s op)) e (op_least m s op) in
    record {
      whole = equal (length s.words) (s.count * wide m) (λ n. clean (Length 0 File) (inl (refl, n)));
      low = λ x a. below x s.count (λ h. clean (Register x) (inr (inl (x, (refl, (a, h))))));
      full = λ x a. marked (get_or s.marks x false) (λ h. clean (Empty x) (inr (inr (x, (refl, (a, h))))));
    }

-- the lists of a gate that is not refused
pub record ReadyToGate (m : Numbers) (count : ℕ) (l : Lists) (s : State) (x y z : ℕ) : Type 0 where
  pub start_long : l.start ≡ start_length m
  pub selectors_long : l.selectors ≡ selectors_length m count
  pub rows_long : l.rows ≡ rows_length m
  pub small_long : l.small ≡ wide m
  pub work_long : l.work ≡ gate_work m
  pub scratch_long : l.scratch ≡ m.degree
  pub ready : Ready m s (x ∷ y ∷ z ∷ []) (x ∷ y ∷ [])

pub gate_accepted : (m : Numbers) (count : ℕ) (l : Lists) (s : State) (x y z : ℕ) → refuse_gate m count l s x y z ≡ None → ReadyToGate m count l s x y z
gate_accepted m count l s x y z e =
    let clean : (g : Fault) → WrongGate m count l s x y z g → ⊥ = subst (Least (WrongGate m count l s x y z)) e (gate_least m count l s x y z) in
    record {
      start_long = equal l.start (start_length m) (λ n. clean (Length 0 File) (inl (refl, n)));
      selectors_long = equal l.selectors (selectors_length m count) (λ n. clean (Length 1 File) (inr (inl (refl, n))));
      rows_long = equal l.rows (rows_length m) (λ n. clean (Length 2 File) (inr (inr (inl (refl, n)))));
      small_long = equal l.small (wide m) (λ n. clean (Length 4 File) (inr (inr (inr (inr (inl (refl, n)))))));
      work_long = equal l.work (gate_work m) (λ n. clean (Length 5 File) (inr (inr (inr (inr (inr (inl (refl, n))))))));
      scratch_long = equal l.scratch m.degree (λ n. clean (Length 6 File) (inr (inr (inr (inr (inr (inr (inl (refl, n)))))))));
      ready = record {
        whole = equal (length s.words) (s.count * wide m) (λ n. clean (Length 3 File) (inr (inr (inr (inl (refl, n))))));
        low = λ v a. below v s.count (λ h. clean (Register v) (inr (inr (inr (inr (inr (inr (inr (inl (v, (refl, (a, h))))))))))));
        full = λ v a. marked (get_or s.marks v false) (λ h. clean (Empty v) (inr (inr (inr (inr (inr (inr (inr (inr (v, (refl, (a, h))))))))))));
      };
    }

pub record ReadyToRead (m : Numbers) (s : State) (x have : ℕ) : Type 0 where
  pub long : have ≡ wide m
  pub ready : Ready m s (x ∷ []) (x ∷ [])

pub read_accepted : (m : Numbers) (s : State) (x have : ℕ) → refuse_read m s x have ≡ None → ReadyToRead m s x have
read_accepted m s x have e =
    let clean : (g : Fault) → WrongRead m s x have g → ⊥ = subst (Least (WrongRead m s x have)) e (read_least m s x have) in
    record {
      long = equal have (wide m) (λ n. clean (Length 0 File) (inl (refl, n)));
      ready = record {
        whole = equal (length s.words) (s.count * wide m) (λ n. clean (Length 1 File) (inr (inl (refl, n))));
        low = λ y a. below y s.count (λ h. clean (Register y) (inr (inr (inl (y, (refl, (a, h)))))));
        full = λ y a. marked (get_or s.marks y false) (λ h. clean (Empty y) (inr (inr (inr (y, (refl, (a, h)))))));
      };
    }

pub record ReadyToPlace (m : Numbers) (s : State) (z : ℕ) (new : List ℕ) : Type 0 where
  pub long : length new ≡ wide m
  pub small : (i : ℕ) → i < length new → get_or new i 0 < m.small
  pub ready : Ready m s (z ∷ []) []

pub place_accepted : (m : Numbers) (s : State) (z : ℕ) (new : List ℕ) → refuse_place m s z new ≡ None → ReadyToPlace m s z new
place_accepted m s z new e =
    let clean : (g : Fault) → WrongPlace m s z new g → ⊥ = subst (Least (WrongPlace m s z new)) e (place_least m s z new) in
    record {
      long = equal (length new) (wide m) (λ n. clean (Length 0 File) (inl (refl, n)));
      small = λ i h. below (get_or new i 0) m.small (λ b. clean (CipherWord i File) (inr (inr (inr (i, (refl, (h, b)))))));
      ready = record {
        whole = equal (length s.words) (s.count * wide m) (λ n. clean (Length 1 File) (inr (inl (refl, n))));
        low = λ y a. below y s.count (λ h. clean (Register y) (inr (inr (inl (y, (refl, (a, h)))))));
        full = λ y a. absurd a;
      };
    }

-- R of an accepted file
pub new_accepted : (m : Numbers) (count have : ℕ) → refuse_new m count have ≡ None → (have ≡ count * wide m) × ((1 ≤ count) × (count ≤ 64))
new_accepted m count have e =
    let clean : (g : Fault) → WrongNew m count have g → ⊥ = subst (Least (WrongNew m count have)) e (new_least m count have) in (
      equal have (count * wide m) (λ n. clean (Length 0 File) (inl (refl, n))),
      elim (cases_lt 0 count) [
        | inl a ↦ elim (cases_lt 64 count) [
          | inl b ↦ absurd (clean (Register count) (inr (refl, λ h. (let k = h.1 in omega arith))))
          | inr b ↦ (omega arith, b)
        ]
        | inr a ↦ absurd (clean (Register count) (inr (refl, λ h. (let k = h.0 in omega arith))))
      ],
    )
