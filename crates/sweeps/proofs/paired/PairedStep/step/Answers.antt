use Rattle.std.proofs.Common.{ℕ, ◌+◌, ◌*◌, ◌/◌, ◌<◌, ◌≤◌, List, get_or, mul-le-mul_right, mul-add, arith}
use Rattle.algebra.specs.Words.{coeffs}
use Rattle.sweeps.specs.External.{taken_by}
use Rattle.sweeps.specs.Forms.{read_rows}
use Rattle.sweeps.specs.Meaning.{turns}
use Rattle.sweeps.specs.Steps.{paired_step}
use Rattle.sweeps.proofs.Mixes.{paired_words}
use Rattle.sweeps.proofs.paired.PairedStep.step.Goals as goal

pub returns : goal.returns
unfolding paired_step
returns g c =
    let s = c.args.set.now in
    let n = s.within.numbers in
    let i = c.args.i in
    let a = get_or c.args.exponents.now 0 0 in
    let b = get_or c.args.exponents.now 1 0 in
    let old = c.args.acc.now in
    let some : 0 < n.modulus = omega (arith, s.within.moduli) in
    let one : (3 * i) * n.digits ≤ (3 * i + 2) * n.digits = mul-le-mul_right n.digits (omega arith) in
    let two : (3 * i + 1) * n.digits ≤ (3 * i + 2) * n.digits = mul-le-mul_right n.digits (omega arith) in
    record {
      value = λ total ends.
          let keys : List (List ℕ) = read_rows (g.K.Kernel.reads s.ring) n.degree total c.args.keys.now in
          paired_words n.degree n.modulus (turns n a) (turns n b) (turns n (a + b))
          (taken_by n keys (3 * i) old) (taken_by n keys (3 * i + 1) old) (taken_by n keys (3 * i + 2) old) (coeffs old)
          c.add_taken.new.acc c.add_taken-2.new.acc c.add_taken-3.new.acc some
          (mul-add ((n.degree + n.degree) / n.small) a b)
          (c.add_taken.ensures.value old total (omega (arith, one, ends)) c.spread.ensures)
          (c.add_taken-2.ensures.value old total (omega (arith, two, ends)) c.spread.ensures)
          (c.add_taken-3.ensures.value old total ends c.spread.ensures);
      poly = c.add_taken-3.ensures.poly;
    }
