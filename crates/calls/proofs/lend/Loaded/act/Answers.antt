use Rattle.std.proofs.Common.{ℕ, ap, ◌∙◌}
use Rattle.faults.specs.Least.{told}
use Rattle.set.specs.declared.numbers.Numbers.{Numbers}
use Rattle.registers.specs.declared.lists.Lists.{Lists}
use Rattle.registers.specs.Marks.{State, state_of}
use Rattle.registers.specs.Registers.{numbers_of}
use Rattle.registers.specs.Steps.{Gates, gates_by, either, done_op}
use Rattle.calls.specs.Calls.{refuse_by}
use Rattle.calls.proofs.Lending.{lists_lent}
use Rattle.calls.proofs.lend.Loaded.act.Goals as goal

pub returns : goal.returns
returns g c =
    let m : Numbers = numbers_of c.args.self.now.engine.now.set in
    let count : ℕ = g.S.Sweep.count c.args.self.now.engine.now.set.within in
    let s : State = state_of c.args.file.now c.args.regs.now in
    let gates : Gates = gates_by g.S.Sweep.defined g.K.Kernel.reads g.S.Sweep.count c.args.self.now.engine.now.set c.args.self.now.keys.start.now c.args.self.now.keys.selectors.now c.args.self.now.keys.rows.now in
    let same = lists_lent m count c.args.lent c.args.self.now.keys.start.now c.args.self.now.keys.selectors.now c.args.self.now.keys.rows.now c.args.small.now c.args.work.now c.args.scratch.now
    c.at_most-a.result c.at_most-b.result c.at_most-c.result c.args.self.now.start c.args.self.now.selectors c.args.self.now.rows c.requires.small c.requires.work c.requires.scratch
    c.at_most-a.ensures c.at_most-b.ensures c.at_most-c.ensures in
    record {
      answer = c.act.ensures.answer ∙ ap (λ (l : Lists). told (refuse_by m count l s c.args.op)) same;
      state = c.act.ensures.state ∙ ap (λ (l : Lists). either (refuse_by m count l s c.args.op) s (done_op gates m s c.args.op)) same;
    }
