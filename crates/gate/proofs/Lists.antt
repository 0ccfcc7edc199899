-- The first list of another length.
use Rattle.std.proofs.Common.{◌≡◌, ℕ, zero, suc, ◌+◌, ◌<◌, eqb, ◌⊎◌, List, [], ◌∷◌, length, get_or, refl, ap, ◌∙◌, inl, inr, arith}
use Rattle.faults.specs.declared.fault.Fault.{Fault}
use Rattle.faults.specs.declared.fault.Fault.TheVariants.{Length}
use Rattle.faults.specs.declared.fault.Layer.TheVariants.{Gate}
use Rattle.faults.specs.Least.{Least, unless}
use Rattle.faults.proofs.Least.{least_or, least_same, least_length, no_later_by}
use Rattle.gate.specs.Lengths.{first_wrong, WrongLengths, LengthsLeast}

-- the same with the lists counted from s on
abbrev From : ℕ → List (ℕ × ℕ) → Fault → Type 0
From s ls g = (i : ℕ) × ((i < length ls) × ((g ≡ Length (s + i) Gate) × ((get_or ls i (0, 0)).0 ≡ (get_or ls i (0, 0)).1 → ⊥)))

-- the list at hand, or one after it
abbrev Either : ℕ → (ℕ × ℕ) → List (ℕ × ℕ) → Fault → Type 0
Either s l ls g = ((g ≡ Length s Gate) × (l.0 ≡ l.1 → ⊥)) ⊎ From (s + 1) ls g

named : (a b : ℕ) (g : Fault) → a ≡ b → g ≡ Length a Gate → g ≡ Length b Gate
named a b g e h = h ∙ ap (λ (i : ℕ). Length i Gate) e

to : (s : ℕ) (l : ℕ × ℕ) (ls : List (ℕ × ℕ)) (g : Fault) → Either s l ls g → From s (l ∷ ls) g
to s l ls g (inl h) = (0, (omega arith, (named s (s + 0) g (omega arith) h.0, h.1)))
to s l ls g (inr h) =
    let b : h.0 < length ls = h.1.0 in
    (suc h.0, (omega arith, (named (s + 1 + h.0) (s + suc h.0) g (omega arith) h.1.1.0, h.1.1.1)))

from : (s : ℕ) (l : ℕ × ℕ) (ls : List (ℕ × ℕ)) (g : Fault) (i : ℕ) → i < length (l ∷ ls) → g ≡ Length (s + i) Gate
    → ((get_or (l ∷ ls) i (0, 0)).0 ≡ (get_or (l ∷ ls) i (0, 0)).1 → ⊥) → Either s l ls g
from s l ls g zero b e n = inl (named (s + 0) s g (omega arith) e, n)
from s l ls g (suc i) b e n = inr (i, (omega arith, (named (s + suc i) (s + 1 + i) g (omega arith) e, n)))

least_from : (s : ℕ) (ls : List (ℕ × ℕ)) → Least (From s ls) (first_wrong s ls)
least_from s [] = λ g h. let b = h.1.0 in omega arith
least_from s (l ∷ ls) =
    least_same (Either s l ls) (From s (l ∷ ls)) (first_wrong s (l ∷ ls)) (to s l ls)
    (λ g h. from s l ls g h.0 h.1.0 h.1.1.0 h.1.1.1)
    (least_or (λ g. (g ≡ Length s Gate) × (l.0 ≡ l.1 → ⊥)) (From (s + 1) ls) (unless (eqb l.0 l.1) (Length s Gate))
    (first_wrong (s + 1) ls) (least_length (Length s Gate) l.0 l.1) (least_from (s + 1) ls)
    (λ f g w v. no_later_by f g (Length s Gate) (Length (s + 1 + v.0) Gate) w.0 v.1.1.0
    (inr (refl, inl (omega arith)))))

-- the first is the least
pub lengths_least : LengthsLeast
lengths_least ls =
    least_same (From 0 ls) (WrongLengths ls) (first_wrong 0 ls)
    (λ g h. (h.0, (h.1.0, (named (0 + h.0) h.0 g (omega arith) h.1.1.0, h.1.1.1))))
    (λ g h. (h.0, (h.1.0, (named h.0 (0 + h.0) g (omega arith) h.1.1.0, h.1.1.1))))
    (least_from 0 ls)
