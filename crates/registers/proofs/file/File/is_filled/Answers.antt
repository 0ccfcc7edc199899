use Rattle.std.proofs.Common.{false, take, sym, ◌∙◌, arith, length-take, get_or-take, le-ltb}
use Rattle.std.proofs.lemmas.List.{get_or_past}
use Rattle.registers.specs.Marks.{filled}
use Rattle.registers.proofs.file.File.is_filled.Goals as goal

pub returns-then-x-self : goal.returns-then-x-self
unfolding filled
returns-then-x-self c = sym (get_or-take c.args.self.now.count c.args.self.now.marks c.args.x false (omega arith))

pub returns-else-x-self : goal.returns-else-x-self
unfolding filled
returns-else-x-self c =
    let file = c.args.self.now in
    let x = c.args.x in
    le-ltb x file.count (omega arith) ∙ sym (get_or_past (take file.count file.marks) x false (simp length-take (omega arith)))
