use Rattle.std.proofs.Common.{◌<◌, ◌∙◌, arith}
use Rattle.algebra.specs.Words.{coeffs}
use Rattle.sweeps.specs.External.{taken_by}
use Rattle.sweeps.specs.Forms.{read_rows}
use Rattle.sweeps.specs.Meaning.{turns}
use Rattle.sweeps.proofs.Mixes.{stepped_words}
use Rattle.sweeps.proofs.rotation.add_taken.Goals as goal

pub returns : goal.returns
returns g c =
    let s = c.args.rows.now.set.now in
    let n = s.within.numbers in
    let some : 0 < n.modulus = omega (arith, s.within.moduli) in
    record {
      value = λ old total ends spread.
          c.turn_onto.ensures.value
          ∙ stepped_words n.degree n.modulus (turns n c.args.e)
          (taken_by n (read_rows (g.K.Kernel.reads s.ring) n.degree total c.args.rows.now.keys.now) c.args.j old)
          c.collect.new.sum (coeffs c.args.acc.now) some
          (c.collect.ensures.value old total ends spread);
      poly = c.turn_onto.ensures.poly;
    }
