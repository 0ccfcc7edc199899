-- The laws of words.
use Rattle.algebra.proofs.WordLaws.{word_laws}
use Rattle.algebra.proofs.word_laws.Goals as goal

pub returns : goal.returns
returns c = word_laws
