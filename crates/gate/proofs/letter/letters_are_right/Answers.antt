use Rattle.gate.proofs.Bits.{bits_right}
use Rattle.gate.proofs.letter.letters_are_right.Goals as goal

pub returns : goal.returns
returns c = bits_right
