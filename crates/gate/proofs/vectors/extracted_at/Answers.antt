use Rattle.std.proofs.Common.{◌∙◌, arith}
use Rattle.gate.proofs.Places.{extracted_last, extracted_first, extracted_next}
use Rattle.gate.proofs.vectors.extracted_at.Goals as goal

pub returns-then-j-degree : goal.returns-then-j-degree
returns-then-j-degree c =
    extracted_last c.args.degree c.args.modulus.value c.args.acc.now c.args.j (omega (arith, c.args.modulus.low)) (omega arith)

pub returns-then-j-eq0 : goal.returns-then-j-eq0
returns-then-j-eq0 c =
    extracted_first c.args.degree c.args.modulus.value c.args.acc.now c.args.j (omega arith) (omega arith)

pub returns : goal.returns
returns c =
    c.minus.ensures.value
    ∙ extracted_next c.args.degree c.args.modulus.value c.args.acc.now c.args.j (omega arith) (omega arith)
