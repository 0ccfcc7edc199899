use Rattle.std.proofs.Common.{arith}
use Rattle.gate.proofs.Turned.{first_half, second_half}
use Rattle.gate.proofs.beginning.is_turned_delta.Goals as goal

pub returns-then-exponent-degree : goal.returns-then-exponent-degree
returns-then-exponent-degree c = λ δ.
    first_half c.args.degree c.args.exponent c.args.k δ c.is_delta.result (omega arith) c.requires.place (c.is_delta.ensures δ)

pub returns-else-exponent-degree : goal.returns-else-exponent-degree
returns-else-exponent-degree c = λ δ.
    second_half c.args.degree c.args.exponent c.args.k δ c.is_delta-else-exponent-degree.result
    (omega arith) (omega arith) c.requires.place (c.is_delta-else-exponent-degree.ensures δ)
