use Rattle.std.proofs.Common.{false, refl, arith}
use Rattle.std.proofs.lemmas.List.{take-replicate}
use Rattle.registers.specs.Marks.{filled}
use Rattle.registers.proofs.file.File.fresh.Goals as goal

pub returns : goal.returns
unfolding filled
returns c = record { count = refl; marks = take-replicate c.args.count 64 false (omega arith) }
