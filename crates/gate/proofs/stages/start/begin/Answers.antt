use Rattle.std.proofs.Common.{ℕ, ap, ◌∙◌, arith}
use Rattle.algebra.specs.Gates.{beginning}
use Rattle.gate.proofs.Sets.{circle}
use Rattle.gate.proofs.Turned.{beginning_rest}
use Rattle.gate.proofs.stages.start.begin.Goals as goal

pub returns : goal.returns
returns c =
    let w = c.args.set.now.within in
    let n = c.args.set.now.within.numbers in
    c.begin_words.ensures
    ∙ ap (λ (N : ℕ). beginning N c.wide.result.value c.turn_of.result) c.requires
    ∙ ap (λ (Q : ℕ). beginning n.degree Q c.turn_of.result) c.wide.ensures
    ∙ ap (λ (e : ℕ). beginning n.degree n.modulus e) c.turn_of.ensures.rest
    ∙ beginning_rest n.degree n.modulus n.small c.args.word (omega (arith, w.moduli.2)) (circle w)
