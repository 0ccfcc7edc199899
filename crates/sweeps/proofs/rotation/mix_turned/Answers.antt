use Rattle.std.proofs.Common.{length, ◌∙◌, arith}
use Rattle.sweeps.proofs.Mixes.{mixed_under, mixed_over}
use Rattle.sweeps.proofs.rotation.mix_turned.Goals as goal

pub returns-then-turn-n : goal.returns-then-turn-n
returns-then-turn-n c =
    c.mix_all.ensures ∙ mixed_under (length c.args.acc.now) c.args.modulus.value c.args.turn c.args.sum.now c.args.acc.now (omega arith)

pub returns-else-turn-n : goal.returns-else-turn-n
returns-else-turn-n c =
    c.mix_all-else-turn-n.ensures
    ∙ mixed_over (length c.args.acc.now) c.args.modulus.value c.args.turn c.args.sum.now c.args.acc.now c.if-turn-n.false c.requires.turn
