use Rattle.std.proofs.Common.{length}
use Rattle.registers.specs.Registers.{numbers_of, wide, row_at, opposite}
use Rattle.registers.proofs.Gated.{inverted}
use Rattle.registers.proofs.named.invert_at.Goals as goal

pub returns : goal.returns
returns c =
    let m = numbers_of c.args.set.now in
    let regs = c.args.regs.now in
    inverted m c.args.count c.args.x c.args.z (length regs) c.invert_at.result regs c.invert_at.new.registers
    (opposite m (row_at (wide m) c.args.x regs)) c.requires.whole c.requires.from c.requires.to c.invert_at.ensures.answer c.invert_at.ensures.words
