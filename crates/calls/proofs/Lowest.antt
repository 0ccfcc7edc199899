-- The rows of the plain machine are those of the file: the smallest number with a property is one.
use Rattle.std.proofs.Common.{◌≡◌, ℕ, zero, suc, ◌+◌, ◌<◌, ◌≤◌, min, Bool, true, false, cond, leb, List, [], ◌∷◌, map, length, get_or, is_some, Some, None, Option, sym, refl, ap, ◌∙◌, subst, inl, inr, arith}
use Rattle.std.specs.List.{range_with_len}
use Rattle.std.proofs.lemmas.Bool.{cases_lt, leb-true, le-leb}
use Rattle.faults.specs.declared.fault.Fault.{Fault}
use Rattle.faults.specs.declared.fault.Fault.TheVariants.{Register, Empty, CipherWord}
use Rattle.faults.specs.declared.fault.Layer.TheVariants.{File}
use Rattle.registers.specs.Registers.{first_high}
use Rattle.registers.specs.Steps.{fault_at, outsides, vacants}
use Rattle.registers.specs.Wrong.{Among}
use Rattle.registers.proofs.Smallest.{Smallest, smallest_same, all_outside, all_vacant, first_high_lem}
use Rattle.calls.specs.Plain.{Entries, no_bit, wrong_ones, lowest, blamed, row10, row11, row12}

smallest_unique : (P : ℕ → Type 0) (a b : Option ℕ) → Smallest P a → Smallest P b → a ≡ b
smallest_unique P None None h k = refl
smallest_unique P None (Some y) h k = absurd (h y k.0)
smallest_unique P (Some x) None h k = absurd (k x h.0)
smallest_unique P (Some x) (Some y) h k =
    let e : x ≡ y = (let p = h.1 y k.0 in let q = k.1 x h.0 in omega arith) in ap (λ (v : ℕ). Some v) e

-- the lowest of a list
abbrev lowest_of : List ℕ → Option ℕ
lowest_of [] = None
lowest_of (x ∷ xs) = Some (lowest x xs)

blamed_is : (f : ℕ → Fault) (xs : List ℕ) → blamed f xs ≡ fault_at f (lowest_of xs)
blamed_is f [] = refl
blamed_is f (x ∷ xs) = refl

min_one : (P : ℕ → Type 0) (x l : ℕ) → P x → P l → P (min x l)
min_one P x l p q = elim (cases_lt x l)
    [ inl h ↦ (let e : x ≡ min x l = omega arith in subst P e p) | inr h ↦ (let e : l ≡ min x l = omega arith in subst P e q) ]

lowest_least : (x : ℕ) (xs : List ℕ) → Among (lowest x xs) (x ∷ xs) × ((y : ℕ) → Among y (x ∷ xs) → lowest x xs ≤ y)
lowest_least x [] = (inl refl, λ y a. elim a [ inl e ↦ omega arith | inr n ↦ absurd n ])
lowest_least x (y ∷ ys) =
    let r = lowest_least y ys in (
      min_one (λ v. Among v (x ∷ y ∷ ys)) x (lowest y ys) (inl refl) (inr r.0),
      λ v a. elim a [ inl e ↦ omega arith | inr b ↦ (let k = r.1 v b in omega arith) ],
    )

lowest_of_lem : (xs : List ℕ) → Smallest (λ v. Among v xs) (lowest_of xs)
lowest_of_lem [] = λ v a. a
lowest_of_lem (x ∷ xs) = lowest_least x xs

-- a number that is kept is one of the list and wrong, and the other way round
keep_by : (p : ℕ → Bool) (x : ℕ) (rest xs : List ℕ) (v : ℕ) (b : Bool) → p x ≡ b → (Among v rest → Among v xs × (p v ≡ true))
    → Among v (cond b (x ∷ rest) rest) → Among v (x ∷ xs) × (p v ≡ true)
keep_by p x rest xs v true e more (inl q) = (inl q, ap p q ∙ e)
keep_by p x rest xs v true e more (inr r) = let k = more r in (inr k.0, k.1)
keep_by p x rest xs v false e more r = let k = more r in (inr k.0, k.1)

kept : (p : ℕ → Bool) (xs : List ℕ) (v : ℕ) → Among v (wrong_ones p xs) → Among v xs × (p v ≡ true)
kept p [] v a = absurd a
kept p (x ∷ xs) v a = keep_by p x (wrong_ones p xs) xs v (p x) refl (kept p xs v) a

stay_by : (p : ℕ → Bool) (x : ℕ) (rest xs : List ℕ) (v : ℕ) (b : Bool) → p x ≡ b → p v ≡ true → (Among v xs → Among v rest)
    → Among v (x ∷ xs) → Among v (cond b (x ∷ rest) rest)
stay_by p x rest xs v true e h more (inl q) = inl q
stay_by p x rest xs v true e h more (inr r) = inr (more r)
stay_by p x rest xs v false e h more (inl q) = absurd (let f : true ≡ false = sym h ∙ ap p q ∙ e in let z : ◌≡◌ {A = ℕ} 0 1 = cc in omega arith)
stay_by p x rest xs v false e h more (inr r) = more r

stays : (p : ℕ → Bool) (xs : List ℕ) (v : ℕ) → p v ≡ true → Among v xs → Among v (wrong_ones p xs)
stays p [] v h a = a
stays p (x ∷ xs) v h a = stay_by p x (wrong_ones p xs) xs v (p x) refl h (stays p xs v h) a

lowest_wrong : (p : ℕ → Bool) (P : ℕ → Type 0) → ((v : ℕ) → p v ≡ true → P v) → ((v : ℕ) → P v → p v ≡ true) → (xs : List ℕ)
    → Smallest (λ v. Among v xs × P v) (lowest_of (wrong_ones p xs))
lowest_wrong p P to from xs =
    smallest_same (λ v. Among v (wrong_ones p xs)) (λ v. Among v xs × P v) (lowest_of (wrong_ones p xs))
    (λ v a. (let k = kept p xs v a in (k.0, to v k.1)))
    (λ v w. stays p xs v (from v w.1) w.0)
    (lowest_of_lem (wrong_ones p xs))

-- one row for another
row_same : (f : ℕ → Fault) (p : ℕ → Bool) (P : ℕ → Type 0) → ((v : ℕ) → p v ≡ true → P v) → ((v : ℕ) → P v → p v ≡ true) → (xs : List ℕ) (a : Option ℕ)
    → Smallest (λ v. Among v xs × P v) a → blamed f (wrong_ones p xs) ≡ fault_at f a
row_same f p P to from xs a h =
    blamed_is f (wrong_ones p xs)
    ∙ ap (fault_at f) (smallest_unique (λ v. Among v xs × P v) (lowest_of (wrong_ones p xs)) a (lowest_wrong p P to from xs) h)

pub row10_same : (R : ℕ) (xs : List ℕ) → row10 R xs ≡ fault_at Register (outsides R xs)
row10_same R xs =
    row_same Register (leb R) (λ v. R ≤ v) (λ v e. leb-true R v e) (λ v h. le-leb R v h) xs (outsides R xs) (all_outside R xs)

-- marks and entries
pub marks_at : (bits : Entries) (x : ℕ) → get_or (map (is_some {T = Bool}) bits) x false ≡ is_some (get_or bits x None)
marks_at [] x = refl
marks_at (b ∷ bs) zero = refl
marks_at (b ∷ bs) (suc x) = marks_at bs x

empty_told : (o : Option Bool) → no_bit o ≡ true → is_some o ≡ false
empty_told None e = refl
empty_told (Some b) e = absurd (let z : ◌≡◌ {A = ℕ} 0 1 = cc in omega arith)

told_empty : (o : Option Bool) → is_some o ≡ false → no_bit o ≡ true
told_empty None e = refl
told_empty (Some b) e = absurd (let z : ◌≡◌ {A = ℕ} 0 1 = cc in omega arith)

pub row11_same : (bits : Entries) (marks : List Bool) → marks ≡ map (is_some {T = Bool}) bits → (xs : List ℕ) → row11 bits xs ≡ fault_at Empty (vacants marks xs)
row11_same bits marks e xs =
    row_same Empty (λ v. no_bit (get_or bits v None)) (λ v. get_or marks v false ≡ false)
    (λ v h. ap (λ (l : List Bool). get_or l v false) e ∙ marks_at bits v ∙ empty_told (get_or bits v None) h)
    (λ v h. told_empty (get_or bits v None) (sym (marks_at bits v) ∙ sym (ap (λ (l : List Bool). get_or l v false) e) ∙ h))
    xs (vacants marks xs) (all_vacant marks xs)

-- the places of a list's words
among_places : (a n v : ℕ) → Among v (range_with_len a n) → (a ≤ v) × (v < a + n)
among_places a zero v h = absurd h
among_places a (suc n) v (inl e) = (omega arith, omega arith)
among_places a (suc n) v (inr r) = let k = among_places (a + 1) n v r in let l = k.0 in let u = k.1 in (omega arith, omega arith)

places_among : (a n v : ℕ) → a ≤ v → v < a + n → Among v (range_with_len a n)
places_among a zero v l u = absurd (omega arith)
places_among a (suc n) v l u = elim (cases_lt a v)
    [ inl h ↦ inr (places_among (a + 1) n v (omega arith) (omega arith)) | inr h ↦ inl (omega arith) ]

pub row12_same : (q : ℕ) (ws : List ℕ) → row12 q ws ≡ fault_at (λ i. CipherWord i File) (first_high q 0 ws)
row12_same q ws =
    row_same (λ i. CipherWord i File) (λ i. leb q (get_or ws i 0)) (λ i. q ≤ get_or ws i 0)
    (λ i e. leb-true q (get_or ws i 0) e) (λ i h. le-leb q (get_or ws i 0) h) (range_with_len 0 (length ws)) (first_high q 0 ws)
    (smallest_same (λ i. (i < length ws) × (q ≤ get_or ws i 0)) (λ i. Among i (range_with_len 0 (length ws)) × (q ≤ get_or ws i 0)) (first_high q 0 ws)
    (λ i w. (places_among 0 (length ws) i (omega arith) (let h = w.0 in omega arith), w.1))
    (λ i w. ((let k = among_places 0 (length ws) i w.0 in let u = k.1 in omega arith), w.1))
    (first_high_lem q ws))
