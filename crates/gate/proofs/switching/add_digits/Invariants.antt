use Rattle.std.proofs.Common.{length}
use Rattle.gate.specs.Stages.{Added, rows_of}
use Rattle.gate.proofs.switching.add_digits.Given as goal

abbrev pub invariant-loop-i : goal.invariant-loop-i
invariant-loop-i l = Added l.initial.out l.out (rows_of l.digits l.i (length l.initial.out) l.rows)
