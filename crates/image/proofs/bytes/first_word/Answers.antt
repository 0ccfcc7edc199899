use Rattle.std.proofs.Common.{ℕ, ◌*◌, ◌/◌, length, leb, sym, ◌∙◌, arith, rules, tests}
use Rattle.std.proofs.lemmas.Iterator.{YieldsList-from_range}
use Rattle.std.proofs.lemmas.Iterator.Search.{find_from_yields_List}
use Rattle.image.specs.Bytes.{word_at, first_words}
use Rattle.image.proofs.Words.{found_first, as_found}
use Rattle.image.proofs.bytes.first_word.Goals as goal

pub returns-clause-index : goal.returns-clause-index
unfolding first_words
returns-clause-index c =
    let part = c.args.part.now in
    let n = length part / 4 in
    sym (as_found c.find.result)
    ∙ find_from_yields_List (λ (k : ℕ). leb c.args.modulus (word_at part (4 * k))) _ _ c.find.result c.find.ensures.ran (YieldsList-from_range 0 n n (cc) (omega arith)) (λ x b q k. search (rules, tests))
    ∙ found_first c.args.modulus (λ k. word_at part (4 * k)) 0 n
