use Rattle.std.proofs.Common.{ℕ, List, sym, ap, ◌∙◌, subst}
use Rattle.gate.specs.Stages.{inverted_of}
use Rattle.gate.specs.Gates.{InvertHolds, register_at}
use Rattle.gate.proofs.Opposite.{inverts, invert_long, inverted_register}
use Rattle.gate.proofs.Reach.{register_new}
use Rattle.gate.proofs.in_place.invert_at_right.Goals as goal

pub returns : goal.returns
returns c =
    let n = c.args.set.now.within.numbers in
    let regs : List ℕ = c.args.registers.now in
    let x : ℕ = c.args.x in
    let z : ℕ = c.args.z in
    let e = inverted_register n regs c.copy_within.new.self c.invert_words.new.words x z c.cipher_words-words.result c.dimension.result c.least.result.value
    c.requires.x c.requires.z c.cipher_words-words.ensures.value c.dimension.ensures.value c.least.ensures c.copy_within.ensures.after c.invert_words.ensures in
    record {
      words = e;
      holds = subst (λ (r : List ℕ). InvertHolds c.args.set.now.within (register_at n regs x) r)
          (sym (ap (λ (v : List ℕ). register_at n v z) e
          ∙ register_new n regs (inverted_of n (register_at n regs x)) z c.requires.z (invert_long n.dimension n.small (register_at n regs x))))
          (inverts c.args.set.now.within (register_at n regs x));
    }
