use Rattle.registers.specs.Marks.{state_of}
use Rattle.registers.specs.Registers.{numbers_of}
use Rattle.registers.proofs.Refusals.{place_least}
use Rattle.registers.proofs.checks.check_place.Goals as goal

pub returns-clause-least : goal.returns-clause-least
returns-clause-least c = place_least (numbers_of c.args.set.now) (state_of c.args.file.now c.args.regs.now) c.args.z c.args.words.now
