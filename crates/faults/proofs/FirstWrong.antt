-- The first list of another length.
use Rattle.std.proofs.Common.{◌≡◌, ℕ, ◌+◌, Bool, true, false, cond, not, eqb, List, [], ◌∷◌, Some, None, Option, sym, refl, ap, ◌∙◌}
use Rattle.std.specs.List.{position, position_from}
use Rattle.std.proofs.lemmas.Iterator.Adapters.{position_from-zero}
use Rattle.std.specs.Option.{option_map}
use Rattle.std.proofs.lemmas.Bool.{eqb-true}
use Rattle.faults.specs.declared.fault.Fault.TheVariants.{Length}
use Rattle.faults.specs.declared.fault.Layer.{Layer}
use Rattle.faults.specs.Least.{or_else, unless}
use Rattle.faults.specs.Lengths.{wrong_from, RightLengths}

-- a list of another length than the right one
abbrev pub differs : ℕ × ℕ → Bool
differs l = not (eqb l.0 l.1)

-- the first of them is the first wrong list
wrong_at : (part : Layer) (s : ℕ) (ls : List (ℕ × ℕ)) → wrong_from part s ls ≡ option_map (λ i. Length i part) (position_from differs s ls)
wrong_at part s [] = refl
wrong_at part s (l ∷ ls) =
    elim (eqb l.0 l.1) as (λ b. or_else (unless b (Length s part)) (wrong_from part (s + 1) ls) ≡ option_map (λ i. Length i part) (cond (not b) (Some s) (position_from differs (s + 1) ls))) [
      | true ↦ wrong_at part (s + 1) ls
      | false ↦ refl
    ]

-- none of them
right_first : (s : ℕ) (l : ℕ × ℕ) (ls : List (ℕ × ℕ)) (b : Bool) → eqb l.0 l.1 ≡ b → (position_from differs (s + 1) ls ≡ None → RightLengths ls)
    → cond (not b) (Some s) (position_from differs (s + 1) ls) ≡ None → RightLengths (l ∷ ls)
right_first s l ls true h rest e = (eqb-true l.0 l.1 h, rest e)
right_first s l ls false h rest e = cc

all_right : (s : ℕ) (ls : List (ℕ × ℕ)) → position_from differs s ls ≡ None → RightLengths ls
all_right s [] e = tt
all_right s (l ∷ ls) e = right_first s l ls (eqb l.0 l.1) refl (all_right (s + 1) ls) e

-- the answer, told by their first
pub wrong_by : (part : Layer) (ls : List (ℕ × ℕ)) (o : Option ℕ) → o ≡ position differs ls → wrong_from part 0 ls ≡ option_map (λ i. Length i part) o
wrong_by part ls o e = wrong_at part 0 ls ∙ ap (option_map (λ i. Length i part)) (sym (e ∙ position_from-zero differs ls))

pub right_by : (ls : List (ℕ × ℕ)) → None ≡ position differs ls → RightLengths ls
right_by ls e = all_right 0 ls (sym (e ∙ position_from-zero differs ls))
