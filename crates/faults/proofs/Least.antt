-- How the law of least faults is shown: row by row, place by place.
use Rattle.std.proofs.Common.{◌≡◌, ℕ, Bool, true, false, eqb, ◌⊎◌, Some, None, Option, sym, refl, subst, inl, inr, arith}
use Rattle.std.proofs.lemmas.Bool.{eqb-true, eqb-false}
use Rattle.faults.specs.declared.fault.Place.{Place}
use Rattle.faults.specs.declared.fault.Fault.{Fault}
use Rattle.faults.specs.Causes.{row_of, place_of}
use Rattle.faults.specs.Least.{Before, NoLater, Least, or_else, unless}

-- a fault comes no later than itself
pub no_later_same : (f : Fault) → NoLater f f
no_later_same f = inr (refl, inr (refl, omega arith))

-- two faults, each told by an equation
pub no_later_by : (f g a b : Fault) → f ≡ a → g ≡ b → NoLater a b → NoLater f g
no_later_by f g a b e h n =
    subst (λ (x : Fault). NoLater f x) (sym h) (subst (λ (x : Fault). NoLater x b) (sym e) n)

-- nothing wrong
pub least_none : (W : Fault → Type 0) → ((g : Fault) → W g → ⊥) → Least W None
least_none W no-fault = no-fault

-- the faults of one relation come before those of another
pub least_or : (W V : Fault → Type 0) (a b : Option Fault) → Least W a → Least V b
    → ((f g : Fault) → W f → V g → NoLater f g) → Least (λ g. W g ⊎ V g) (or_else a b)
least_or W V (Some f) b h k apart = (inl h.0, λ g w. elim w [ inl x ↦ h.1 g x | inr y ↦ apart f g h.0 y ])
least_or W V None None h k apart = λ g w. elim w [ inl x ↦ h g x | inr y ↦ k g y ]
least_or W V None (Some f) h k apart = (inr k.0, λ g w. elim w [ inl x ↦ absurd (h g x) | inr y ↦ k.1 g y ])

-- the same faults told by another relation
pub least_same : (W V : Fault → Type 0) (a : Option Fault) → ((g : Fault) → W g → V g) → ((g : Fault) → V g → W g)
    → Least W a → Least V a
least_same W V None to from h = λ g v. h g (from g v)
least_same W V (Some f) to from h = (to f h.0, λ g v. h.1 g (from g v))

-- one fault, by a test that fails just where the fault is true
pub least_unless : (b : Bool) (f : Fault) (P : Type 0) → (b ≡ false → P) → (P → b ≡ true → ⊥)
    → Least (λ g. (g ≡ f) × P) (unless b f)
least_unless true f P was nor = λ g w. nor w.1 refl
least_unless false f P was nor =
    ((refl, was refl), λ g w. subst (λ (x : Fault). NoLater f x) (sym w.0) (no_later_same f))

-- a length that is not the right one
pub least_length : (f : Fault) (n m : ℕ) → Least (λ g. (g ≡ f) × (n ≡ m → ⊥)) (unless (eqb n m) f)
least_length f n m = least_unless (eqb n m) f (n ≡ m → ⊥) (λ e. eqb-false n m e) (λ p e. p (eqb-true n m e))

-- places and faults in their order
before_trans : (p q r : Place) → Before p q → Before q r → Before p r
before_trans p q r a b =
    elim a [
      | inl l ↦ elim b [ inl m ↦ inl (omega arith) | inr n ↦ inl (let e = n.0 in omega arith) ]
      | inr k ↦ elim b [
        | inl m ↦ inl (let e = k.0 in omega arith)
        | inr n ↦ inr ((let e = k.0 in let h = n.0 in omega arith), (let e = k.1 in let h = n.1 in omega arith))
      ]
    ]

pub no_later_trans : (f g h : Fault) → NoLater f g → NoLater g h → NoLater f h
no_later_trans f g h a b =
    elim a [
      | inl l ↦ elim b [ inl m ↦ inl (omega arith) | inr n ↦ inl (let e = n.0 in omega arith) ]
      | inr k ↦ elim b [
        | inl m ↦ inl (let e = k.0 in omega arith)
        | inr n ↦ inr ((let e = k.0 in let i = n.0 in omega arith), before_trans (place_of f) (place_of g) (place_of h) k.1 n.1)
      ]
    ]

-- rows in order, the first of which has the fault f: the answer is the least, and nothing comes before f
pub record Rows (f : Fault) (W : Fault → Type 0) (answer : Option Fault) : Type 0 where
  pub least : Least W answer
  pub later : (g : Fault) → W g → NoLater f g

-- the last row
pub row_last : (f : Fault) (b : Bool) (P : Type 0) → (b ≡ false → P) → (P → b ≡ true → ⊥) → Rows f (λ g. (g ≡ f) × P) (unless b f)
row_last f b P was nor =
    record { least = least_unless b f P was nor; later = λ g w. subst (λ (x : Fault). NoLater f x) (sym w.0) (no_later_same f) }

-- one row more, in front
pub row_first : (f h : Fault) (W : Fault → Type 0) (rest : Option Fault) (b : Bool) (P : Type 0) → NoLater f h → (b ≡ false → P) → (P → b ≡ true → ⊥)
    → Rows h W rest → Rows f (λ g. ((g ≡ f) × P) ⊎ W g) (or_else (unless b f) rest)
row_first f h W rest b P n was nor rows =
    record {
      least = least_or (λ g. (g ≡ f) × P) W (unless b f) rest (least_unless b f P was nor) rows.least
          (λ x g w v. subst (λ (y : Fault). NoLater y g) (sym w.0) (no_later_trans f h g n (rows.later g v)));
      later = λ g w. elim w [
        | inl x ↦ subst (λ (y : Fault). NoLater f y) (sym x.0) (no_later_same f)
        | inr y ↦ no_later_trans f h g n (rows.later g y)
      ];
    }

-- faults of one cause at rising places, and faults of a later row
pub same_row : (f h : Fault) → row_of f ≡ row_of h → Before (place_of f) (place_of h) → NoLater f h
same_row f h e b = inr (e, b)
