-- The bits of the six gates, case by case.
use Rattle.std.proofs.Common.{◌≡◌, Bool, true, false, refl, inl, inr, arith}
use Rattle.algebra.specs.Gates.{outcome}
use Rattle.algebra.specs.Gates as algebra
use Rattle.gate.specs.declared.letter.Letter.{Letter}
use Rattle.gate.specs.declared.letter.Letter.TheVariants.{Nand, And, Or, Nor, Xor, Xnor}
use Rattle.gate.specs.Letters.{offset_of, times_of, num_of, bit_of, BitsRight}

letter_right : (l : Letter) → algebra.Letter (offset_of l) (times_of l)
letter_right Nand = (omega arith, inl (refl, refl))
letter_right And = (omega arith, inl (refl, refl))
letter_right Or = (omega arith, inl (refl, refl))
letter_right Nor = (omega arith, inl (refl, refl))
letter_right Xor = (omega arith, inr (refl, refl))
letter_right Xnor = (omega arith, inr (refl, refl))

bit_right : (l : Letter) (a b : Bool) → outcome (offset_of l) (times_of l) (num_of a) (num_of b) ≡ num_of (bit_of l a b)
bit_right Nand true true = refl
bit_right Nand true false = refl
bit_right Nand false true = refl
bit_right Nand false false = refl
bit_right And true true = refl
bit_right And true false = refl
bit_right And false true = refl
bit_right And false false = refl
bit_right Or true true = refl
bit_right Or true false = refl
bit_right Or false true = refl
bit_right Or false false = refl
bit_right Nor true true = refl
bit_right Nor true false = refl
bit_right Nor false true = refl
bit_right Nor false false = refl
bit_right Xor true true = refl
bit_right Xor true false = refl
bit_right Xor false true = refl
bit_right Xor false false = refl
bit_right Xnor true true = refl
bit_right Xnor true false = refl
bit_right Xnor false true = refl
bit_right Xnor false false = refl

pub bits_right : BitsRight
bits_right = record { letter = letter_right; bit = bit_right }
