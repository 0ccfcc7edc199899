use Rattle.std.proofs.Common.{ℕ, get_or, pos, ◌+ℤ◌, ap, ◌∙◌, arith}
use Rattle.algebra.specs.Polys.{mul}
use Rattle.algebra.specs.Words.{coeffs, word_of}
use Rattle.kernels.specs.PlainKernelLemmas.{some}
use Rattle.kernels.proofs.Terms.{fused_all, fused_reduced}
use Rattle.kernels.proofs.schoolbook.fuse.Goals as goal

pub returns : goal.returns
returns c =
    let r = c.args.ring.now in
    let acc = c.args.acc.now in
    let left = c.args.left.now in
    let right = c.args.right.now in
    fused_all r.degree r.modulus acc left right c.loop-k.acc (omega (arith, c.requires.zero, c.loop-k.auto.acc))
    (λ j h. c.loop-k.invariant.0 j (omega (arith, c.requires.zero))
    ∙ ap (λ (n : ℕ). word_of r.modulus (pos (get_or acc j 0) +ℤ mul n (coeffs left) (coeffs right) j)) c.requires.two)
    ∙ fused_reduced r.degree r.modulus acc left right (some r)
