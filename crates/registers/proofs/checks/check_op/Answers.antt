use Rattle.registers.specs.Marks.{state_of}
use Rattle.registers.specs.Registers.{numbers_of}
use Rattle.registers.proofs.Refusals.{op_least}
use Rattle.registers.proofs.checks.check_op.Goals as goal

pub returns-in-Gate-clause-least : goal.returns-in-Gate-clause-least
returns-in-Gate-clause-least c = op_least (numbers_of c.args.set.now) (state_of c.args.file.now c.args.regs.now) c.args.op

pub returns-in-Invert-clause-least : goal.returns-in-Invert-clause-least
returns-in-Invert-clause-least c = op_least (numbers_of c.args.set.now) (state_of c.args.file.now c.args.regs.now) c.args.op
