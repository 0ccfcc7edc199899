use Rattle.std.proofs.Common.{◌≡◌, ℕ, ◌+◌, ◌-◌, ◌*◌, ◌^◌, List, get_or, refl, sym, ap, ◌∙◌, arith}
use Rattle.algebra.specs.Digits.{digit}
use Rattle.algebra.specs.Polys.{Poly}
use Rattle.algebra.specs.Words.{words}
use Rattle.kernels.specs.Polynomials.{poly_of}
use Rattle.sweeps.specs.Held.{under}
use Rattle.sweeps.proofs.Calls.{after_two, poly_words}
use Rattle.sweeps.proofs.products.fill_row.Goals as goal

pub returns : goal.returns
returns g c =
    let r = c.args.ring.now in
    let k = g.K.Kernel in
    let at = c.args.i * r.degree in
    let p : Poly = (λ k. digit (2 ^ c.args.gadget.now.width) (c.args.gadget.now.digits - c.args.i) (under (get_or c.args.rest.now k 0)) 0) in
    let row : c.cut.new.row ≡ words r.degree r.modulus p =
    c.cut.ensures.row ∙ ap (λ (n : ℕ). words n c.args.gadget.now.modulus.value p) c.requires.rest
    ∙ ap (λ (n : ℕ). words r.degree n p) (sym c.requires.same) in
    let turned : c.turn.new.words ≡ k.form r (poly_of r c.cut.new.row) =
    after_two r c.turn.result _ _ c.turn.new.words _ _ c.turn.ensures.answer (omega arith) (omega arith) c.turn.ensures.words in
    let form : c.turn.new.words ≡ k.form r (words r.degree r.modulus p) =
    turned ∙ ap (λ (w : List ℕ). k.form r (poly_of r w)) row ∙ ap (k.form r) (poly_words r p) in
    let e : at + r.degree - at ≡ r.degree = omega arith in
    record {
      rows = rw (e, form) refl;
      rest = c.cut.ensures.rest;
      held = λ k l. rw c.requires.same (c.cut.ensures.held k l);
    }
