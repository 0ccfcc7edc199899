-- Lists of a checked set: keys, work memory, and the polynomials that words read as.
use Rattle.std.specs.Prelude.{ℕ, ◌+◌, ◌*◌, List}
use Rattle.algebra.specs.Polys.{Poly}
use Rattle.algebra.specs.Words.{words}
use Rattle.rings.specs.declared.ring.Ring.{Ring}
use Rattle.set.specs.declared.numbers.Numbers.{Numbers}
use Rattle.set.specs.declared.checked.Set.{Set}
use Rattle.sweeps.specs.Forms.{read_rows}

abbrev pub numbers_of : Set → Numbers
numbers_of s = s.within.numbers

-- the words of a polynomial
abbrev pub words_in : Set → Poly → List ℕ
words_in s p = words s.within.numbers.degree s.within.numbers.modulus p

-- the words of a key, and of work memory: d digit polynomials and a sum
abbrev pub key_long : Set → ℕ
key_long s = s.within.numbers.digits * s.within.numbers.degree

abbrev pub work_long : Set → ℕ
work_long s = (s.within.numbers.digits + 1) * s.within.numbers.degree

-- how many polynomials there are up to key j
abbrev pub key_end : Set → ℕ → ℕ
key_end s j = j * s.within.numbers.digits + s.within.numbers.digits

-- what `total` polynomials of N words read as
abbrev pub polys_in : (Ring → List ℕ → List ℕ) → Set → ℕ → List ℕ → List (List ℕ)
polys_in reads s total keys = read_rows (reads s.ring) s.within.numbers.degree total keys
