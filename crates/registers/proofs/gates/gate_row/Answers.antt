use Rattle.std.proofs.Common.{length}
use Rattle.registers.specs.Registers.{numbers_of, wide, row_at}
use Rattle.registers.specs.Steps.{gates_by}
use Rattle.registers.proofs.Gated.{gated}
use Rattle.registers.proofs.gates.gate_row.Goals as goal

pub returns : goal.returns
returns g c =
    let m = numbers_of c.args.set.now in
    let regs = c.args.regs.now in
    gated m (g.S.Sweep.count c.args.set.now.within) c.args.count c.args.x c.args.y c.args.z
    (length c.args.keys.start.now) (length c.args.keys.selectors.now) (length c.args.keys.rows.now) (length regs)
    (length c.args.small.now) (length c.args.work.now) (length c.args.scratch.now)
    c.gate_at.result regs c.gate_at.new.registers
    (gates_by g.S.Sweep.defined g.K.Kernel.reads g.S.Sweep.count c.args.set.now c.args.keys.start.now c.args.keys.selectors.now c.args.keys.rows.now
    c.args.letter (row_at (wide m) c.args.x regs) (row_at (wide m) c.args.y regs))
    c.requires.start c.requires.selectors c.requires.rows c.requires.whole c.requires.small c.requires.work c.requires.scratch
    c.requires.x c.requires.y c.requires.z c.gate_at.ensures.answer c.gate_at.ensures.words
