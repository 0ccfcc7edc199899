use Rattle.std.proofs.Common.{◌∙◌, arith}
use Rattle.sweeps.specs.External.{taken_words}
use Rattle.sweeps.proofs.external.take_by.Goals as goal

pub returns : goal.returns
unfolding taken_words
returns g c =
    c.copy_from_slice.ensures.after
    ∙ c.collect.ensures.value c.args.acc.now c.args.set.now.within.numbers.digits (omega arith) c.spread.ensures
