use Rattle.std.proofs.Common.{◌≡◌, ℕ, get_or, ap, ◌∙◌, add-zero, arith}
use Rattle.image.specs.Bytes.{word_at}
use Rattle.image.proofs.Words.{four_at}
use Rattle.image.proofs.bytes.word_at.Goals as goal

pub returns-in-Some-first_chunk : goal.returns-in-Some-first_chunk
unfolding word_at
returns-in-Some-first_chunk c =
    let at = four_at c.args.bytes.now c.in-Some.rest.now c.in-Some-first_chunk.four.now c.args.at c.in-Some.ensures.lookup.0.2 c.in-Some-first_chunk.ensures.cases in
    let first = at 0 (omega arith) ∙ ap (λ (i : ℕ). get_or c.args.bytes.now i 0) (add-zero c.args.at) in
    let second = at 1 (omega arith) in
    let third = at 2 (omega arith) in
    let fourth = at 3 (omega arith) in
    cc

pub returns : goal.returns
unfolding word_at
returns c =
    let first : c.byte_at-a.result ≡ get_or c.args.bytes.now c.args.at 0 =
    c.byte_at-a.ensures ∙ ap (λ (i : ℕ). get_or c.args.bytes.now i 0) (add-zero c.args.at) in
    cc
