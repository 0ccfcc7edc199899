-- Defines words of a modulus Q, from 0 to Q - 1, as coefficients, and products of lists of words.
use Rattle.std.specs.Prelude.{ℕ, ◌-◌, ◌%◌, List, map, ℤ, pos, negsuc, slice_index}
use Rattle.std.specs.List.{range_with_len}
use Rattle.algebra.specs.Polys.{Poly, plus, mul}

-- the polynomial of a list of words, constant first
abbrev pub coeffs : List ℕ → Poly
coeffs xs k = pos (slice_index xs k)

-- the remainder of an integer modulo Q
abbrev pub word_of : ℕ → ℤ → ℕ
word_of Q (pos a) = a % Q
word_of Q (negsuc a) = Q - 1 - a % Q

-- the words of the N coefficients of p
unfoldable pub words : ℕ → ℕ → Poly → List ℕ
words N Q p = map (λ k. word_of Q (p k)) (range_with_len 0 N)

-- a times b, modulo X^N + 1 and Q
unfoldable pub product : ℕ → ℕ → List ℕ → List ℕ → List ℕ
product N Q a b = words N Q (mul N (coeffs a) (coeffs b))

-- c plus a times b, modulo X^N + 1 and Q
unfoldable pub fused : ℕ → ℕ → List ℕ → List ℕ → List ℕ → List ℕ
fused N Q c a b = words N Q (plus (coeffs c) (mul N (coeffs a) (coeffs b)))
