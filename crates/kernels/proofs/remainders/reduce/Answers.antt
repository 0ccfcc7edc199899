use Rattle.std.proofs.Common.{ℕ, List, length, sym, refl, subst}
use Rattle.kernels.specs.PlainKernelLemmas.{some}
use Rattle.kernels.specs.Polynomials.{Below}
use Rattle.kernels.specs.Reduced.{reduced_same, reduced_poly}
use Rattle.kernels.proofs.remainders.reduce.Goals as goal

pub returns-then-not-all_below-clause-below : goal.returns-then-not-all_below-clause-below
returns-then-not-all_below-clause-below c =
    let Q = c.args.ring.now.modulus in
    let w = c.args.words.now in
    subst (λ (i : List ℕ). Below Q i) (sym c.divide.ensures) (reduced_poly (length w) Q w (some c.args.ring.now)).1

pub returns-else-not-all_below-clause-same : goal.returns-else-not-all_below-clause-same
returns-else-not-all_below-clause-same c =
    let w = c.args.words.now in
    reduced_same (length w) c.args.ring.now.modulus w (refl, c.all_below.ensures.0 c.if-not-all_below.false)
