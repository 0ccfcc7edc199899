use Rattle.std.proofs.Common.{◌≡◌, ℕ, ◌*◌, List, ◌++◌, drop, ap, ◌∙◌, arith}
use Rattle.kernels.specs.Polynomials.{poly_of}
use Rattle.kernels.specs.Reduced.{reduced_poly}
use Rattle.sweeps.proofs.Calls.{modulus_some}
use Rattle.sweeps.proofs.Rows.{row_ends}
use Rattle.engine.specs.Load.{form_rows}
use Rattle.engine.proofs.Rows.{forms_none, forms_step, forms_all}
use Rattle.engine.proofs.turning.turn_rows.Goals as goal

pub loop-i-init : goal.loop-i-init
loop-i-init g c =
    let r = c.args.ring.now in
    forms_none (λ p. g.K.Kernel.form r (poly_of r p)) r.degree c.args.words.now
    (λ p. (g.met.K.Kernel.forms.below r (poly_of r p) (reduced_poly r.degree r.modulus p (modulus_some r))).0)

pub turn_row-requires : goal.turn_row-requires
turn_row-requires g c =
    let h = row_ends c.loop-i.i c.args.ring.now.degree c.args.count (omega arith) in
    record { row = omega (arith, h, c.requires.words); scratch = omega (arith, c.requires.scratch) }

pub loop-i-preserved : goal.loop-i-preserved
loop-i-preserved g c =
    let r = c.args.ring.now in
    forms_step (λ p. g.K.Kernel.form r (poly_of r p)) r.degree c.args.words.now
    (λ p. (g.met.K.Kernel.forms.below r (poly_of r p) (reduced_poly r.degree r.modulus p (modulus_some r))).0)
    c.loop-i.i c.loop-i.words c.turn_row.new.words c.loop-i.invariant c.turn_row.ensures

pub returns : goal.returns
returns g c =
    let r = c.args.ring.now in
    let f = (λ (p : List ℕ). g.K.Kernel.form r (poly_of r p)) in
    let long = (λ (p : List ℕ). (g.met.K.Kernel.forms.below r (poly_of r p) (reduced_poly r.degree r.modulus p (modulus_some r))).0) in
    let e : c.loop-i.i ≡ c.args.count = omega arith in
    c.loop-i.invariant
    ∙ ap (λ (n : ℕ). form_rows f r.degree n c.args.words.now ++ drop (n * r.degree) c.args.words.now) e
    ∙ forms_all f r.degree c.args.words.now long c.args.count c.requires.words
