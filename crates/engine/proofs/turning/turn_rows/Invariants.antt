use Rattle.std.proofs.Common.{◌≡◌, ◌*◌, ◌++◌, drop}
use Rattle.kernels.specs.Polynomials.{poly_of}
use Rattle.engine.specs.Load.{form_rows}
use Rattle.engine.proofs.turning.turn_rows.Given as goal

abbrev pub invariant-loop-i : goal.invariant-loop-i
invariant-loop-i g l =
    let r = l.ring in
    l.words
    ≡ form_rows (λ p. g.K.Kernel.form r (poly_of r p)) r.degree l.i l.initial.words ++ drop (l.i * r.degree) l.initial.words
