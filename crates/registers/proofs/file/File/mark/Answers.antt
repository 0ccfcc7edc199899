use Rattle.std.proofs.Common.{refl}
use lib.Seq.{take-set-lt}
use Rattle.registers.specs.Marks.{filled}
use Rattle.registers.proofs.file.File.mark.Goals as goal

pub returns : goal.returns
unfolding filled
returns c = record { count = refl; marks = take-set-lt c.args.self.now.count c.args.self.now.marks c.args.z c.args.on c.requires }
