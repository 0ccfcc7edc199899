use Rattle.std.proofs.Common.{ℕ, ap, ◌∙◌}
use Rattle.faults.specs.Least.{told}
use Rattle.set.specs.declared.numbers.Numbers.{Numbers}
use Rattle.registers.specs.Marks.{State, state_of}
use Rattle.registers.specs.Registers.{numbers_of}
use Rattle.registers.specs.Steps.{refuse_read}
use Rattle.calls.proofs.Lending.{slot_read}
use Rattle.calls.proofs.lend.read_lent.Goals as goal

pub returns : goal.returns
returns g c =
    let m : Numbers = numbers_of c.args.engine.now.set in
    let s : State = state_of c.args.file.now c.args.regs.now in
    let words = rw c.set.ensures at c.read.ensures.words in
    let h = slot_read m s c.args.x c.args.len c.at_most-n.result c.args.slot.now c.fill.new.self c.read.new.out c.requires c.at_most-n.ensures
    (c.fill.ensures.after (λ y e. e)) words in
    record {
      answer = (rw c.set.ensures at c.read.ensures.answer) ∙ ap (λ (k : ℕ). told (refuse_read m s c.args.x k)) h.0;
      slot = h.1;
    }
