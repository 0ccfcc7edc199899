use Rattle.std.proofs.Common.{◌≡◌, ℕ, replicate, pos, ap, ◌∙◌, arith}
use Rattle.kernels.specs.Polynomials.{poly_of}
use Rattle.sweeps.proofs.Calls.{after_two, poly_zeros, reads_turned}
use Rattle.sweeps.proofs.products.gather.Goals as goal

pub fold_rows-requires : goal.fold_rows-requires
fold_rows-requires g c =
    let r = c.args.ring.now in
    let k = g.K.Kernel in
    let zeros : c.fill.new.self ≡ replicate r.degree 0 =
    c.fill.ensures.after (λ y e. e) ∙ ap (λ (n : ℕ). replicate n 0) c.requires.sum in
    let turned : c.turn.new.words ≡ k.form r (poly_of r c.fill.new.self) =
    after_two r c.turn.result _ _ c.turn.new.words _ _ c.turn.ensures.answer (omega arith) (omega arith) c.turn.ensures.words in
    record {
      keys = c.requires.keys;
      sum = omega arith;
      zero = reads_turned g.met.K.Kernel.forms r (λ k. pos 0) c.turn.new.words (turned ∙ ap (k.form r) (poly_zeros r c.fill.new.self zeros));
    }
