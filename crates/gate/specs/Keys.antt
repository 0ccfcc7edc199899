-- The polynomials that keys in memory read as, for a kernel's reading.
use Rattle.std.specs.Prelude.{ℕ, ◌*◌, List}
use Rattle.rings.specs.declared.ring.Ring.{Ring}
use Rattle.set.specs.declared.within.Within.{Within}
use Rattle.set.specs.declared.checked.Set.{Set}
use Rattle.sweeps.specs.Forms.{read_rows}

-- the d polynomials of the start key
abbrev pub start_of : (Ring → List ℕ → List ℕ) → Set → List ℕ → List (List ℕ)
start_of reads set ws = read_rows (reads set.ring) set.within.numbers.degree set.within.numbers.digits ws

-- the d polynomials of each selector, one selector after the other
abbrev pub selectors_of : (Ring → List ℕ → List ℕ) → (Within → ℕ) → Set → List ℕ → List (List ℕ)
selectors_of reads count set ws = read_rows (reads set.ring) set.within.numbers.degree (count set.within * set.within.numbers.digits) ws
