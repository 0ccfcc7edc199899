use Rattle.std.proofs.Common.{ℕ, List, length, get_or, map, ap, ◌∙◌, arith}
use Rattle.std.proofs.lemmas.List.{map-set, length-map}
use Rattle.words.specs.Rounding.{rounded_to}
use Rattle.gate.proofs.Places.{told_more, narrowed_from, rounded_rest}
use Rattle.gate.proofs.vectors.narrow_words.Goals as goal

pub loop-i-preserved : goal.loop-i-preserved
loop-i-preserved g c = λ k b.
    ap (λ (xs : List ℕ). get_or xs k 0) (map-set g.W.Word.number c.loop-i.out c.loop-i.i c.of.result)
    ∙ told_more (λ k. rounded_to c.args.from.value c.args.to.value (get_or c.args.words.now k 0))
    (map g.W.Word.number c.loop-i.out) c.loop-i.i (g.W.Word.number c.of.result)
    (rw (length-map c.loop-i.out g.W.Word.number) (omega arith)) (c.of.ensures ∙ c.rounded.ensures.value) c.loop-i.invariant k b

pub returns : goal.returns
returns g c =
    let R = c.args.from.value in
    let S = c.args.to.value in
    narrowed_from (length c.args.out.now) R S c.args.words.now (map g.W.Word.number c.loop-i.out)
    (length-map c.loop-i.out g.W.Word.number ∙ omega arith)
    (λ k l. c.loop-i.invariant k (omega arith) ∙ rounded_rest R S (get_or c.args.words.now k 0) (omega (arith, c.args.from.low)))
