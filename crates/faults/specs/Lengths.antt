-- Lists with their right lengths: each list is told by its length and the right one.
use Rattle.std.specs.Prelude.{◌≡◌, ℕ, ◌+◌, List, [], ◌∷◌, None, Option, ◌==◌}
use Rattle.std.specs.List.{AllByRecursion}
use Rattle.faults.specs.declared.fault.Fault.{Fault}
use Rattle.faults.specs.declared.fault.Fault.TheVariants.{Length}
use Rattle.faults.specs.declared.fault.Layer.{Layer}
use Rattle.faults.specs.Least.{or_else, unless}

-- the first list, counted from i on, that has not its right length
abbrev pub wrong_from : Layer → ℕ → List (ℕ × ℕ) → Option Fault
wrong_from part i [] = None
wrong_from part i (l ∷ ls) = or_else (unless (l.0 == l.1) (Length i part)) (wrong_from part (i + 1) ls)

-- every list has its right length
abbrev pub RightLengths : List (ℕ × ℕ) → Type 0
RightLengths ls = AllByRecursion (λ l. l.0 ≡ l.1) ls
