use Rattle.std.proofs.Common.{ℕ, ◌<◌, replicate, ℤ, ap, ◌∙◌, arith, w64}
use Rattle.std.proofs.lemmas.Int.{to_z-of_z}
use Rattle.algebra.specs.Words.{word_of}
use Rattle.sweeps.proofs.Constants.{constant_is}
use Rattle.sweeps.proofs.messages.write_constant.Goals as goal

pub returns : goal.returns
returns c =
    let n = c.args.within.now.numbers in
    let a : 0 < n.degree = omega (arith, c.args.within.now.lengths) in
    let b : 0 < n.modulus = omega (arith, c.args.within.now.moduli) in
    constant_is n c.args.z c.fill.new.self c.word_of.result a b
    (c.fill.ensures.after (λ y e. e) ∙ ap (λ (m : ℕ). replicate m 0) c.requires)
    (c.word_of.ensures ∙ ap (λ (z : ℤ). word_of n.modulus z) (to_z-of_z w64 c.args.z c.ranges.z))
