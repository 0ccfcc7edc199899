use Rattle.std.proofs.Common.{ℕ, ◌+◌, ◌*◌, ◌/◌, cond, eqb, get_or, pos, ◌-ℤ◌, ◌∙◌, ap₂, arith}
use Rattle.algebra.specs.Words.{word_of}
use Rattle.gate.proofs.Places.{combined_from, told_more}
use Rattle.gate.proofs.vectors.combine_words.Goals as goal

pub returns : goal.returns
returns c =
    combined_from c.args.last c.args.modulus.value c.args.offset c.args.times c.args.x.now c.args.y.now c.loop-i.out
    (omega arith) (λ k l. c.loop-i.invariant k (omega arith))

pub loop-i-preserved : goal.loop-i-preserved
loop-i-preserved c =
    let q = c.args.modulus.value in
    told_more
    (λ k. word_of q (pos (cond (eqb k c.args.last) (c.args.offset * (q / 8)) 0)
    -ℤ pos (c.args.times * (get_or c.args.x.now k 0 + get_or c.args.y.now k 0))))
    c.loop-i.out c.loop-i.i c.minus.result (omega arith)
    (c.minus.ensures.value
    ∙ ap₂ (λ (h s : ℕ). word_of q (pos h -ℤ pos s)) c.at_last.ensures c.added.ensures)
    c.loop-i.invariant
