-- Centred representatives and gadget decomposition, over the integers.
use Rattle.std.specs.Prelude.{ℕ, zero, suc, ◌%◌, List, [], ◌∷◌, ℤ, pos, ◌+ℤ◌, ◌*ℤ◌}
use Rattle.algebra.specs.Digits.{centred, lowered, rest_of, digit_of}

-- the representative of a word of modulus R above -R/2 and at most R/2
abbrev pub centred_of : ℕ → ℕ → ℤ
centred_of R x = centred R (x % R)

-- the digits of u in base B, lowest first: the last is the rest that remains
unfoldable pub digits_of : ℕ → ℕ → ℤ → List ℤ
digits_of B zero u = []
digits_of B (suc zero) u = u ∷ []
digits_of B (suc (suc k)) u = digit_of B u ∷ digits_of B (suc k) (rest_of B u)

-- the number that digits stand for: the sum of digit i times B^i
unfoldable pub value_of : ℕ → List ℤ → ℤ
value_of B [] = pos 0
value_of B (x ∷ xs) = x +ℤ pos B *ℤ value_of B xs

-- what is split of a word of modulus R: its representative less the dropped part P, rounded
abbrev pub scaled_of : ℕ → ℕ → ℕ → ℤ
scaled_of R P x = lowered P (centred_of R x)

-- the gadget decomposition of a word of modulus R: d digits in base B of the word without its dropped part P
abbrev pub split_of : ℕ → ℕ → ℕ → ℕ → ℕ → List ℤ
split_of R P B d x = digits_of B d (scaled_of R P x)
