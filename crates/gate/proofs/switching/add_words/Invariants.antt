use Rattle.std.proofs.Common.{length}
use Rattle.algebra.specs.Ints.{sum_z}
use Rattle.gate.specs.Stages.{Added, all_rows_of}
use Rattle.gate.proofs.switching.add_words.Given as goal

abbrev pub invariant-loop-j : goal.invariant-loop-j
invariant-loop-j l = Added l.initial.out l.out (λ t. sum_z l.j (λ j. all_rows_of l.gadget l.words (length l.initial.out) l.rows j t))
