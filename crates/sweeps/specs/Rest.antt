-- Digits that are left of kept numbers, and sums of products of rows.
use Rattle.std.specs.Prelude.{◌≡◌, ℕ, ◌+◌, ◌-◌, ◌^◌, ◌<◌, List, length, slice_index}
use Rattle.algebra.specs.Digits.{digit}
use Rattle.algebra.specs.Keys.{split, taken}
use Rattle.algebra.specs.Polys.{Poly}
use Rattle.algebra.specs.Words.{coeffs, words}
use Rattle.rings.specs.declared.ring.Ring.{Ring}
use Rattle.words.specs.declared.gadget.Gadget.{Gadget}
use Rattle.sweeps.specs.Forms.{row_of}
use Rattle.sweeps.specs.Held.{under}

-- digit i of n digits of each number
abbrev pub rest_digit : ℕ → ℕ → List ℕ → ℕ → Poly
rest_digit B n rest i k = digit B n (under (slice_index rest k)) i

-- after one step the digits of `new` are the others of `rest`
abbrev pub Remains : ℕ → ℕ → List ℕ → List ℕ → Type 0
Remains B n rest new =
    (k j : ℕ) → k < length rest → j + 1 < n → rest_digit B (n - 1) new j k ≡ rest_digit B n rest (j + 1) k

-- digit i of n digits of each number, as words of the ring
abbrev pub digit_row : Ring → ℕ → ℕ → List ℕ → ℕ → List ℕ
digit_row r B n rest i = words r.degree r.modulus (rest_digit B n rest i)

-- digit i of each word of an accumulator, as words of the ring
abbrev pub split_row : Ring → Gadget → List ℕ → ℕ → List ℕ
split_row r g acc i =
    words r.degree r.modulus (split r.modulus (2 ^ g.shift) (2 ^ g.width) g.digits acc i)

-- the sum of the products of `count` rows with those of a key, from the row `first` on
abbrev pub gathered : (Ring → List ℕ → List ℕ) → Ring → ℕ → List ℕ → List ℕ → ℕ → List ℕ
gathered reads r count rows keys first =
    words r.degree r.modulus (taken r.degree count
    (λ i. coeffs (reads r (row_of r.degree rows i))) (λ i. coeffs (reads r (row_of r.degree keys (first + i)))))
