use Rattle.std.proofs.Common.{◌∙◌, arith}
use Rattle.image.proofs.Words.{word_capped}
use Rattle.image.proofs.bytes.nth_word.Goals as goal

pub returns : goal.returns
returns c = c.word_at.ensures ∙ word_capped c.args.part.now c.args.k c.saturating_mul.result c.saturating_mul.ensures (omega arith)
