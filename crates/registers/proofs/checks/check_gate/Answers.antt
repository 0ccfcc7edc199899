use Rattle.registers.specs.Marks.{state_of}
use Rattle.registers.specs.Registers.{numbers_of}
use Rattle.registers.proofs.Refusals.{gate_least}
use Rattle.registers.proofs.checks.check_gate.Goals as goal

pub returns-in_err-check_lists-clause-least : goal.returns-in_err-check_lists-clause-least
returns-in_err-check_lists-clause-least g c =
    gate_least (numbers_of c.args.set.now) (g.S.Sweep.count c.args.set.now.within) c.args.lists (state_of c.args.file.now c.args.regs.now) c.args.x c.args.y c.args.z

pub returns-clause-least : goal.returns-clause-least
returns-clause-least g c =
    gate_least (numbers_of c.args.set.now) (g.S.Sweep.count c.args.set.now.within) c.args.lists (state_of c.args.file.now c.args.regs.now) c.args.x c.args.y c.args.z
