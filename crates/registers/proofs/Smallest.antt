-- The smallest number with a property, and the fault that it makes.
use Rattle.std.proofs.Common.{◌≡◌, ℕ, zero, suc, ◌+◌, ◌<◌, ◌≤◌, Bool, true, false, cond, ltb, ◌⊎◌, List, [], ◌∷◌, length, get_or, Some, None, Option, sym, refl, subst, inl, inr, arith}
use Rattle.std.proofs.lemmas.Bool.{ltb-true, ltb-false, both_ways, cases_lt}
use Rattle.faults.specs.declared.fault.Fault.{Fault}
use Rattle.faults.specs.declared.fault.Fault.TheVariants.{Register, Empty, CipherWord}
use Rattle.faults.specs.declared.fault.Layer.TheVariants.{File}
use Rattle.faults.specs.Least.{NoLater, Least}
use Rattle.registers.specs.Registers.{first_high}
use Rattle.registers.specs.Marks.{State}
use Rattle.registers.specs.Steps.{lesser, outside, outsides, vacant, vacants, fault_at}
use Rattle.registers.specs.Wrong.{Among, WrongRegister, WrongEmpty, WrongWord}

abbrev pub Smallest : (ℕ → Type 0) → Option ℕ → Type 0
Smallest P None = (x : ℕ) → P x → ⊥
Smallest P (Some x) = P x × ((y : ℕ) → P y → x ≤ y)

pick : (b : Bool) (x y : ℕ) (P Q : ℕ → Type 0) → ltb x y ≡ b → Smallest P (Some x) → Smallest Q (Some y) → Smallest (λ v. P v ⊎ Q v) (Some (cond b x y))
pick true x y P Q e h k = (inl h.0, λ v w. elim w [ inl p ↦ h.1 v p | inr q ↦ (let l = ltb-true x y e in let m = k.1 v q in omega arith) ])
pick false x y P Q e h k = (inr k.0, λ v w. elim w [ inl p ↦ (let l = ltb-false x y e in let m = h.1 v p in omega arith) | inr q ↦ k.1 v q ])

smallest_lesser : (P Q : ℕ → Type 0) (a b : Option ℕ) → Smallest P a → Smallest Q b → Smallest (λ v. P v ⊎ Q v) (lesser a b)
smallest_lesser P Q None None h k = λ v w. elim w [ inl p ↦ h v p | inr q ↦ k v q ]
smallest_lesser P Q None (Some y) h k = (inr k.0, λ v w. elim w [ inl p ↦ absurd (h v p) | inr q ↦ k.1 v q ])
smallest_lesser P Q (Some x) None h k = (inl h.0, λ v w. elim w [ inl p ↦ h.1 v p | inr q ↦ absurd (k v q) ])
smallest_lesser P Q (Some x) (Some y) h k = pick (ltb x y) x y P Q refl h k

pub smallest_same : (P Q : ℕ → Type 0) (a : Option ℕ) → ((v : ℕ) → P v → Q v) → ((v : ℕ) → Q v → P v) → Smallest P a → Smallest Q a
smallest_same P Q None to from h = λ v q. h v (from v q)
smallest_same P Q (Some x) to from h = (to x h.0, λ v q. h.1 v (from v q))

-- one number, by a test that fails just where it has the property
smallest_one : (b : Bool) (x : ℕ) (P : ℕ → Type 0) → (b ≡ false → P x) → (P x → b ≡ true → ⊥) → Smallest (λ v. (v ≡ x) × P v) (cond b None (Some x))
smallest_one true x P was nor = λ v w. nor (subst P w.0 w.1) refl
smallest_one false x P was nor = ((refl, was refl), λ v w. (let e = w.0 in omega arith))

-- the first of some numbers, or one of the rest
module _ (P : ℕ → Type 0) (x : ℕ) (xs : List ℕ) where
  smallest_more : (a b : Option ℕ) → Smallest (λ v. (v ≡ x) × P v) a → Smallest (λ v. Among v xs × P v) b → Smallest (λ v. Among v (x ∷ xs) × P v) (lesser a b)
  smallest_more a b h k =
      smallest_same (λ v. ((v ≡ x) × P v) ⊎ (Among v xs × P v)) (λ v. Among v (x ∷ xs) × P v) (lesser a b)
      (λ v w. elim w [ inl p ↦ (inl p.0, p.1) | inr q ↦ (inr q.0, q.1) ])
      (λ v w. elim w.0 [ inl p ↦ inl (p, w.1) | inr q ↦ inr (q, w.1) ])
      (smallest_lesser (λ v. (v ≡ x) × P v) (λ v. Among v xs × P v) a b h k)

pub all_outside : (count : ℕ) (xs : List ℕ) → Smallest (λ v. Among v xs × (count ≤ v)) (outsides count xs)
all_outside count [] = λ v w. w.0
all_outside count (x ∷ xs) =
    smallest_more (λ v. count ≤ v) x xs (outside count x) (outsides count xs)
    (smallest_one (ltb x count) x (λ v. count ≤ v) (λ e. ltb-false x count e) (λ h e. (let l = ltb-true x count e in omega arith)))
    (all_outside count xs)

pub all_vacant : (marks : List Bool) (xs : List ℕ) → Smallest (λ v. Among v xs × (get_or marks v false ≡ false)) (vacants marks xs)
all_vacant marks [] = λ v w. w.0
all_vacant marks (x ∷ xs) =
    smallest_more (λ v. get_or marks v false ≡ false) x xs (vacant marks x) (vacants marks xs)
    (smallest_one (get_or marks x false) x (λ v. get_or marks v false ≡ false) (λ e. e) (λ h e. both_ways (get_or marks x false) h e))
    (all_vacant marks xs)

-- the first word that is not below q
abbrev High : ℕ → ℕ → List ℕ → ℕ → Type 0
High q i ws j = (m : ℕ) × ((j ≡ i + m) × ((m < length ws) × (q ≤ get_or ws m 0)))

later : (q i v : ℕ) (vs : List ℕ) → ltb v q ≡ true → (j m : ℕ) → (j ≡ i + m) × ((m < length (v ∷ vs)) × (q ≤ get_or (v ∷ vs) m 0)) → High q (i + 1) vs j
later q i v vs e j zero w = absurd (let l = ltb-true v q e in let p = w.1.1 in omega arith)
later q i v vs e j (suc m) w = (m, ((let p = w.0 in omega arith), ((let p = w.1.0 in omega arith), w.1.1)))

high_by : (b : Bool) (q i v : ℕ) (vs : List ℕ) → ltb v q ≡ b → Smallest (High q (i + 1) vs) (first_high q (i + 1) vs) → Smallest (High q i (v ∷ vs)) (cond b (first_high q (i + 1) vs) (Some i))
high_by true q i v vs e h =
    smallest_same (High q (i + 1) vs) (High q i (v ∷ vs)) (first_high q (i + 1) vs)
    (λ j w. (suc w.0, ((let p = w.1.0 in omega arith), ((let p = w.1.1.0 in omega arith), w.1.1.1))))
    (λ j w. later q i v vs e j w.0 w.1) h
high_by false q i v vs e h = ((0, (omega arith, (omega arith, ltb-false v q e))), λ j w. (let p = w.1.0 in omega arith))

first_least : (q i : ℕ) (ws : List ℕ) → Smallest (High q i ws) (first_high q i ws)
first_least q i [] = λ j w. (let p = w.1.1.0 in omega arith)
first_least q i (v ∷ vs) = high_by (ltb v q) q i v vs refl (first_least q (i + 1) vs)

pub first_high_lem : (q : ℕ) (ws : List ℕ) → Smallest (λ i. (i < length ws) × (q ≤ get_or ws i 0)) (first_high q 0 ws)
first_high_lem q ws =
    smallest_same (High q 0 ws) (λ i. (i < length ws) × (q ≤ get_or ws i 0)) (first_high q 0 ws)
    (λ i w. (let e : w.0 ≡ i = (let p = w.1.0 in omega arith) in subst (λ (m : ℕ). (m < length ws) × (q ≤ get_or ws m 0)) e w.1.1))
    (λ i w. (i, (omega arith, w)))
    (first_least q 0 ws)

-- the least fault of a row: of faults with one cause that of the smallest number
at_most : (a b : ℕ) → a ≤ b → (a < b) ⊎ ((a ≡ b) × (0 ≤ 0))
at_most a b l = elim (cases_lt a b) [ inl h ↦ inl h | inr h ↦ inr (omega arith, omega arith) ]

least_at : (f : ℕ → Fault) (P : ℕ → Type 0) (a : Option ℕ) → ((x y : ℕ) → x ≤ y → NoLater (f x) (f y)) → Smallest P a
    → Least (λ g. (x : ℕ) × ((g ≡ f x) × P x)) (fault_at f a)
least_at f P None rising h = λ g w. h w.0 w.1.1
least_at f P (Some x) rising h =
    ((x, (refl, h.0)), λ g w. subst (λ (y : Fault). NoLater (f x) y) (sym w.1.0) (rising x w.0 (h.1 w.0 w.1.1)))

pub register_least : (s : State) (xs : List ℕ) → Least (WrongRegister s xs) (fault_at Register (outsides s.count xs))
register_least s xs =
    least_at Register (λ v. Among v xs × (s.count ≤ v)) (outsides s.count xs) (λ x y l. inr (refl, at_most x y l)) (all_outside s.count xs)

pub empty_least : (s : State) (xs : List ℕ) → Least (WrongEmpty s xs) (fault_at Empty (vacants s.marks xs))
empty_least s xs =
    least_at Empty (λ v. Among v xs × (get_or s.marks v false ≡ false)) (vacants s.marks xs) (λ x y l. inr (refl, at_most x y l)) (all_vacant s.marks xs)

pub word_least : (q : ℕ) (ws : List ℕ) → Least (WrongWord q ws) (fault_at (λ i. CipherWord i File) (first_high q 0 ws))
word_least q ws =
    least_at (λ i. CipherWord i File) (λ i. (i < length ws) × (q ≤ get_or ws i 0)) (first_high q 0 ws) (λ x y l. inr (refl, at_most x y l)) (first_high_lem q ws)
