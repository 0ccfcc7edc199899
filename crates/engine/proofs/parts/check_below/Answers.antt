use Rattle.std.proofs.Common.{arith}
use Rattle.engine.proofs.Highs.{high_inside}
use Rattle.engine.proofs.parts.check_below.Goals as goal

pub overflow_add-result : goal.overflow_add-result
overflow_add-result c =
    let h = high_inside c.args.modulus c.part_of.result.now c.in-Some.at c.in-Some.ensures in
    omega (arith, c.part_of.ensures.short)
