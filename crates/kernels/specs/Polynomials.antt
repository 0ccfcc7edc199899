-- Lists of words as polynomials of a ring.
use Rattle.std.specs.Prelude.{◌≡◌, ℕ, ◌<◌, List, length, slice_index}
use Rattle.algebra.specs.Words.{coeffs, words, fused}
use Rattle.rings.specs.declared.ring.Ring.{Ring}

-- every word lies below Q
abbrev pub Below : ℕ → List ℕ → Type 0
Below Q xs = (k : ℕ) → k < length xs → slice_index xs k < Q

-- N words below Q
abbrev pub IsPoly : ℕ → ℕ → List ℕ → Type 0
IsPoly N Q p = (length p ≡ N) × Below Q p

-- the remainders of N words
abbrev pub reduced : ℕ → ℕ → List ℕ → List ℕ
reduced N Q xs = words N Q (coeffs xs)

-- p is a polynomial of the ring
abbrev pub InRing : Ring → List ℕ → Type 0
InRing r p = IsPoly r.degree r.modulus p

-- the polynomial of some words: a word of Q and above counts as its remainder
abbrev pub poly_of : Ring → List ℕ → List ℕ
poly_of r xs = reduced r.degree r.modulus xs

-- c + a b in the ring
abbrev pub fused_in : Ring → List ℕ → List ℕ → List ℕ → List ℕ
fused_in r c a b = fused r.degree r.modulus c a b
