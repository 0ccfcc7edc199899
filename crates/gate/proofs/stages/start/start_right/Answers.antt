use Rattle.std.proofs.Common.{ℕ, ◌<◌, List, get_or, set, sym, ap, ◌∙◌, arith}
use Rattle.algebra.specs.Gates.{beginning}
use Rattle.kernels.specs.Polynomials.{reduced}
use Rattle.sweeps.specs.Forms.{read_rows}
use Rattle.sweeps.specs.External.{taken_words}
use Rattle.sweeps.specs.Meaning.{turns}
use Rattle.gate.proofs.Turned.{beginning_reduced}
use Rattle.gate.proofs.stages.start.start_right.Goals as goal

pub returns : goal.returns
returns g c =
    let n = c.args.set.now.within.numbers in
    let key : List (List ℕ) = read_rows (g.K.Kernel.reads c.args.set.now.ring) n.degree n.digits c.args.key.now in
    let last = c.dimension-last.ensures.value in
    let e : ℕ = turns n (get_or c.args.combined.now n.dimension 0) in
    let some : 0 < c.args.set.now.within.numbers.modulus = omega (arith, c.args.set.now.within.moduli.2) in
    record {
      token = omega (arith, c.take_start.auto.acc, c.begin.auto.acc, c.requires.acc);
      combined = ap (λ (i : ℕ). set c.args.combined.now i 0) last;
      acc = c.take_start.ensures.acc
          ∙ ap (λ (xs : List ℕ). taken_words n key (reduced n.degree n.modulus xs))
          (c.begin.ensures ∙ ap (λ (i : ℕ). beginning n.degree n.modulus (turns n (get_or c.args.combined.now i 0))) last)
          ∙ ap (λ (xs : List ℕ). taken_words n key xs) (sym (beginning_reduced n.degree n.modulus e some));
      work = c.take_start.ensures.work;
      scratch = c.take_start.ensures.scratch;
    }
