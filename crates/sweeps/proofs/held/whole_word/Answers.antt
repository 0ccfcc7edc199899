use Rattle.std.proofs.Common.{◌^◌, arith}
use Rattle.sweeps.specs.Held.{under}
use Rattle.sweeps.proofs.Keeping.{word_less, word_more}
use Rattle.sweeps.proofs.held.whole_word.Goals as goal

pub returns-then-x-lt2147483648 : goal.returns-then-x-lt2147483648
unfolding under
returns-then-x-lt2147483648 c =
    word_less c.args.modulus.value c.args.x (2 ^ 31) c.if-x-lt2147483648.true (omega (arith, c.requires.0))

pub returns-else-x-lt2147483648 : goal.returns-else-x-lt2147483648
unfolding under
returns-else-x-lt2147483648 c =
    word_more c.args.modulus.value c.args.x (2 ^ 31) c.if-x-lt2147483648.false (omega (arith, c.requires.1, c.args.modulus.low))
