-- Start and sweep, one after the other.
use Rattle.std.proofs.Common.{◌≡◌, ℕ, List, set, ap, ◌∙◌, ap₂}
use Rattle.std.proofs.lemmas.List.{take-set}
use Rattle.kernels.specs.Polynomials.{reduced}
use Rattle.set.specs.declared.numbers.Numbers.{Numbers}
use Rattle.gate.specs.Stages.{started_of, swept_of}
use Rattle.gate.specs.Gates.{rotated_of}

pub rotated_from : (defined : Numbers → List ℕ → List (List ℕ) → List ℕ → List ℕ) (n : Numbers) (start keys : List (List ℕ)) (zs mid acc : List ℕ)
    → mid ≡ set zs n.dimension 0 → acc ≡ started_of n start zs → swept_of defined n keys mid acc ≡ rotated_of defined n start keys zs
unfolding rotated_of
rotated_from defined n start keys zs mid acc e h =
    ap₂ (λ (v a : List ℕ). swept_of defined n keys v a) e h
    ∙ ap (λ (v : List ℕ). defined n v keys (reduced n.degree n.modulus (started_of n start zs))) (take-set zs n.dimension 0)
