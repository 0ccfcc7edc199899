-- Answers of calls whose lists have the right lengths.
use Rattle.std.proofs.Common.{◌≡◌, ℕ, Bool, eqb, None, Option, ap, eq-eqb}
use Rattle.faults.specs.declared.fault.Fault.{Fault}
use Rattle.faults.specs.Least.{or_else, unless}

-- a right length is not refused, and what comes after it decides
pub right_length : (n m : ℕ) (f : Fault) → n ≡ m → unless (eqb n m) f ≡ None
right_length n m f e = ap (λ (b : Bool). unless b f) (eq-eqb n m e)

pub right_then : (n m : ℕ) (f : Fault) (rest : Option Fault) → n ≡ m → or_else (unless (eqb n m) f) rest ≡ rest
right_then n m f rest e = ap (λ (b : Bool). or_else (unless b f) rest) (eq-eqb n m e)
