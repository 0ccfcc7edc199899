use Rattle.std.proofs.Common.{map}
use Rattle.registers.specs.Marks.{state_of}
use Rattle.registers.specs.Registers.{numbers_of}
use Rattle.registers.specs.Steps.{gates_by}
use Rattle.calls.specs.Calls.{asked}
use Rattle.calls.proofs.Pushes.{Goes}
use Rattle.calls.proofs.lend.Loaded.each.Given as goal

abbrev pub invariant-loop-i : goal.invariant-loop-i
invariant-loop-i g l =
    Goes (gates_by g.S.Sweep.defined g.K.Kernel.reads g.S.Sweep.count l.self.engine.now.set l.self.keys.start.now l.self.keys.selectors.now l.self.keys.rows.now) (numbers_of l.self.engine.now.set)
    (g.S.Sweep.count l.self.engine.now.set.within) (map asked l.calls) (state_of l.initial.file l.initial.regs) l.i (state_of l.file l.regs) l.got l.reads
