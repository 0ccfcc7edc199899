-- What the checks find by chains of iterators, as the recursions of specs/ say it.
use Rattle.std.proofs.Common.{◌≡◌, ℕ, ◌+◌, Bool, true, false, not, cond, ltb, leb, min, List, [], ◌∷◌, filter, fold, get_or, Some, None, Option, sym, refl, ap, ◌∙◌, arith}
use Rattle.std.specs.List.{reduce, position_from}
use Rattle.std.proofs.lemmas.Bool.Decides.{nat_tests}
use Rattle.registers.specs.Registers.{first_high}
use Rattle.registers.specs.Steps.{lesser, outside, outsides, vacants}

-- the smaller of two numbers, by a test
min_by : (a b : ℕ) → cond (ltb a b) a b ≡ min a b
min_by a b = grind (arith, nat_tests)

lesser_none : (r : Option ℕ) → lesser None r ≡ r
lesser_none None = refl
lesser_none (Some b) = refl

lesser_some : (a b : ℕ) (r : Option ℕ) → lesser (Some (min a b)) r ≡ lesser (Some a) (lesser (Some b) r)
lesser_some a b None = ap Some (sym (min_by a b))
lesser_some a b (Some x) = ap Some (grind (arith, nat_tests))

-- a smallest number by a recursion, as a chain of iterators finds it
module _ (f : List ℕ → Option ℕ) (t : ℕ → Bool) (none : f [] ≡ None) (more : (x : ℕ) (xs : List ℕ) → f (x ∷ xs) ≡ lesser (cond (t x) (Some x) None) (f xs)) where
  step : (b : Bool) (a x : ℕ) (xs ys : List ℕ) → f (x ∷ xs) ≡ lesser (cond b (Some x) None) (f xs) → ((c : ℕ) → Some (fold min c ys) ≡ lesser (Some c) (f xs))
      → Some (fold min a (cond b (x ∷ ys) ys)) ≡ lesser (Some a) (f (x ∷ xs))
  step true a x xs ys e h = h (min a x) ∙ lesser_some a x (f xs) ∙ sym (ap (lesser (Some a)) e)
  step false a x xs ys e h = h a ∙ sym (ap (lesser (Some a)) (e ∙ lesser_none (f xs)))

  folded : (a : ℕ) (xs : List ℕ) → Some (fold min a (filter t xs)) ≡ lesser (Some a) (f xs)
  folded a [] = sym (ap (lesser (Some a)) none)
  folded a (x ∷ xs) = step (t x) a x xs (filter t xs) (more x xs) (λ c. folded c xs)

  reduced_by : (b : Bool) (x : ℕ) (xs ys : List ℕ) → f (x ∷ xs) ≡ lesser (cond b (Some x) None) (f xs) → ys ≡ filter t xs → f xs ≡ reduce min ys
      → f (x ∷ xs) ≡ reduce min (cond b (x ∷ ys) ys)
  reduced_by true x xs ys e k h = e ∙ sym (ap (λ (zs : List ℕ). Some (fold min x zs)) k ∙ folded x xs)
  reduced_by false x xs ys e k h = e ∙ lesser_none (f xs) ∙ h

  smallest_filtered : (xs : List ℕ) → f xs ≡ reduce min (filter t xs)
  smallest_filtered [] = none
  smallest_filtered (x ∷ xs) = reduced_by (t x) x xs (filter t xs) (more x xs) refl (smallest_filtered xs)

beyond_one : (count x : ℕ) → outside count x ≡ cond (leb count x) (Some x) None
beyond_one count x = grind (arith, nat_tests)

pub outsides_filtered : (count : ℕ) (xs : List ℕ) → outsides count xs ≡ reduce min (filter (leb count) xs)
outsides_filtered count = smallest_filtered (outsides count) (leb count) refl (λ x xs. ap (λ (v : Option ℕ). lesser v (outsides count xs)) (beyond_one count x))

turned : (b : Bool) (x : ℕ) → cond b None (Some x) ≡ cond (not b) (Some x) None
turned true x = refl
turned false x = refl

pub vacants_filtered : (marks : List Bool) (xs : List ℕ) → vacants marks xs ≡ reduce min (filter (λ x. not (get_or marks x false)) xs)
vacants_filtered marks =
    smallest_filtered (vacants marks) (λ x. not (get_or marks x false)) refl
    (λ x xs. ap (λ (v : Option ℕ). lesser v (vacants marks xs)) (turned (get_or marks x false) x))

pub high_position : (q i : ℕ) (ws : List ℕ) → first_high q i ws ≡ position_from (leb q) i ws
high_position q i [] = refl
high_position q i (v ∷ vs) = let h = high_position q (i + 1) vs in grind (arith, nat_tests)
