-- The six gates: their letters, their offsets, and their bits.
use Rattle.std.specs.Prelude.{◌≡◌, ℕ, Bool, true, false, cond, not, ◌&&◌, ◌||◌, Some, None, Option, ◌==◌}
use Rattle.algebra.specs.Gates.{outcome}
use Rattle.algebra.specs.Gates as algebra
use Rattle.gate.specs.declared.letter.Letter.{Letter}
use Rattle.gate.specs.declared.letter.Letter.TheVariants.{Nand, And, Or, Nor, Xor, Xnor}

-- the gate that a letter stands for, by its code
abbrev pub letter_of : ℕ → Option Letter
letter_of c =
    cond (c == 78) (Some Nand)
    (cond (c == 65) (Some And)
    (cond (c == 79) (Some Or)
    (cond (c == 82) (Some Nor)
    (cond (c == 88) (Some Xor)
    (cond (c == 69) (Some Xnor) None)))))

-- o, in eighths of q
abbrev pub offset_of : Letter → ℕ
offset_of Nand = 5
offset_of And = 1
offset_of Or = 7
offset_of Nor = 3
offset_of Xor = 0
offset_of Xnor = 4

-- t
abbrev pub times_of : Letter → ℕ
times_of Nand = 1
times_of And = 1
times_of Or = 1
times_of Nor = 1
times_of Xor = 2
times_of Xnor = 2

-- a bit as a number
abbrev pub num_of : Bool → ℕ
num_of true = 1
num_of false = 0

-- the bit of the gate
abbrev pub bit_of : Letter → Bool → Bool → Bool
bit_of Nand a b = not (a && b)
bit_of And a b = a && b
bit_of Or a b = a || b
bit_of Nor a b = not (a || b)
bit_of Xor a b = cond a (not b) b
bit_of Xnor a b = cond a b (not b)

-- each gate has offsets that make a gate, and they answer its bit
pub record BitsRight : Type 0 where
  pub letter : (l : Letter) → algebra.Letter (offset_of l) (times_of l)
  pub bit : (l : Letter) (a b : Bool) → outcome (offset_of l) (times_of l) (num_of a) (num_of b) ≡ num_of (bit_of l a b)
