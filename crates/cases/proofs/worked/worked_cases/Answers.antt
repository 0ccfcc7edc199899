use Rattle.std.proofs.Common.{refl}
use lib.Count.{count_leading_zeros}
use Rattle.algebra.specs.Ints.{sum_z}
use Rattle.algebra.specs.Polys.{mul}
use Rattle.algebra.specs.Words.{words, product}
use Rattle.algebra.specs.Gates.{extract}
use Rattle.words.specs.Powers.{log2}
use Rattle.words.specs.Digits.{digits_of}
use Rattle.set.specs.Limits.{limits_broken}
use Rattle.set.specs.Rules.{rules_broken}
use Rattle.cases.specs.Worked.{worked}
use Rattle.cases.proofs.worked.worked_cases.Goals as goal

pub returns : goal.returns
unfolding worked product extract words mul sum_z digits_of log2 count_leading_zeros limits_broken rules_broken
returns c = refl
