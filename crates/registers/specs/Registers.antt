-- Registers as rows of n + 1 words in one memory.
use Rattle.std.specs.Prelude.{ℕ, ◌+◌, ◌*◌, cond, List, [], ◌∷◌, take, drop, Some, None, Option, nat_lt}
use borrow.Rule.Slice.PartMut.{put_mid}
use Rattle.algebra.specs.Gates.{invert}
use Rattle.algebra.specs.Words.{coeffs, words}
use Rattle.set.specs.declared.checked.Set.{Set}
use Rattle.set.specs.declared.numbers.Numbers.{Numbers}

-- the numbers of a set
abbrev pub numbers_of : Set → Numbers
numbers_of s = s.within.numbers

-- n + 1, the words of a register
abbrev pub wide : Numbers → ℕ
wide m = m.dimension + 1

-- the words of register x, of w words
abbrev pub row_at : ℕ → ℕ → List ℕ → List ℕ
row_at w x memory = take w (drop (x * w) memory)

-- register z written anew, and all others as they were
abbrev pub put_row : Numbers → ℕ → List ℕ → List ℕ → List ℕ
put_row m z memory new = put_mid (z * wide m) (wide m) memory new

-- the remainders of w words modulo q
abbrev pub reduced : ℕ → ℕ → List ℕ → List ℕ
reduced w q xs = words w q (coeffs xs)

-- a register's words modulo q, and the words of its opposite bit
abbrev pub remainders : Numbers → List ℕ → List ℕ
remainders m xs = reduced (wide m) m.small xs

abbrev pub opposite : Numbers → List ℕ → List ℕ
opposite m xs = invert m.dimension m.small xs

-- the place of the first word that is not below q, where these words start at place i
abbrev pub first_high : ℕ → ℕ → List ℕ → Option ℕ
first_high q i [] = None
first_high q i (v ∷ vs) = cond (nat_lt v q) (first_high q (i + 1) vs) (Some i)
