-- The first list of another length is the least fault.
use Rattle.std.proofs.Common.{◌≡◌, ℕ, zero, suc, ◌+◌, ◌<◌, eqb, ◌⊎◌, List, [], ◌∷◌, length, get_or, refl, ap, ◌∙◌, inl, inr, arith}
use Rattle.faults.specs.declared.fault.Fault.{Fault}
use Rattle.faults.specs.declared.fault.Fault.TheVariants.{Length}
use Rattle.faults.specs.declared.fault.Layer.TheVariants.{Kernel}
use Rattle.faults.specs.Least.{Least, unless}
use Rattle.faults.proofs.Least.{least_or, least_same, least_length, no_later_by}
use Rattle.kernels.specs.Lengths.{wrong_length, WrongLengths, LengthsLeast}

-- the same with the lists counted from s on
abbrev From : ℕ → ℕ → List ℕ → Fault → Type 0
From N s ls g = (i : ℕ) × ((i < length ls) × ((g ≡ Length (s + i) Kernel) × (get_or ls i 0 ≡ N → ⊥)))

-- the list at hand, or one after it
abbrev Either : ℕ → ℕ → ℕ → List ℕ → Fault → Type 0
Either N s l ls g = ((g ≡ Length s Kernel) × (l ≡ N → ⊥)) ⊎ From N (s + 1) ls g

named : (a b : ℕ) (g : Fault) → a ≡ b → g ≡ Length a Kernel → g ≡ Length b Kernel
named a b g e h = h ∙ ap (λ (i : ℕ). Length i Kernel) e

to : (N s l : ℕ) (ls : List ℕ) (g : Fault) → Either N s l ls g → From N s (l ∷ ls) g
to N s l ls g (inl h) = (0, (omega arith, (named s (s + 0) g (omega arith) h.0, h.1)))
to N s l ls g (inr h) =
    let b : h.0 < length ls = h.1.0 in
    (suc h.0, (omega arith, (named (s + 1 + h.0) (s + suc h.0) g (omega arith) h.1.1.0, h.1.1.1)))

from : (N s l : ℕ) (ls : List ℕ) (g : Fault) (i : ℕ) → i < length (l ∷ ls) → g ≡ Length (s + i) Kernel
    → (get_or (l ∷ ls) i 0 ≡ N → ⊥) → Either N s l ls g
from N s l ls g zero b e n = inl (named (s + 0) s g (omega arith) e, n)
from N s l ls g (suc i) b e n = inr (i, (omega arith, (named (s + suc i) (s + 1 + i) g (omega arith) e, n)))

least_from : (N s : ℕ) (ls : List ℕ) → Least (From N s ls) (wrong_length N s ls)
least_from N s [] = λ g h. let b = h.1.0 in omega arith
least_from N s (l ∷ ls) =
    least_same (Either N s l ls) (From N s (l ∷ ls)) (wrong_length N s (l ∷ ls)) (to N s l ls)
    (λ g h. from N s l ls g h.0 h.1.0 h.1.1.0 h.1.1.1)
    (least_or (λ g. (g ≡ Length s Kernel) × (l ≡ N → ⊥)) (From N (s + 1) ls) (unless (eqb l N) (Length s Kernel))
    (wrong_length N (s + 1) ls) (least_length (Length s Kernel) l N) (least_from N (s + 1) ls)
    (λ f g w v. no_later_by f g (Length s Kernel) (Length (s + 1 + v.0) Kernel) w.0 v.1.1.0
    (inr (refl, inl (omega arith)))))

pub lengths_least : LengthsLeast
lengths_least N ls =
    least_same (From N 0 ls) (WrongLengths N ls) (wrong_length N 0 ls)
    (λ g h. (h.0, (h.1.0, (named (0 + h.0) h.0 g (omega arith) h.1.1.0, h.1.1.1))))
    (λ g h. (h.0, (h.1.0, (named h.0 (0 + h.0) g (omega arith) h.1.1.0, h.1.1.1))))
    (least_from N 0 ls)
