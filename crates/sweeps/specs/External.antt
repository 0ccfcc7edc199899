-- The external product: an accumulator taken by a key, as words.
use Rattle.std.specs.Prelude.{◌≡◌, ℕ, ◌+◌, ◌*◌, ◌<◌, ◌≤◌, List, Option, ◌==◌}
use Rattle.faults.specs.declared.fault.Fault.{Fault}
use Rattle.faults.specs.declared.fault.Fault.TheVariants.{Length}
use Rattle.faults.specs.declared.fault.Layer.TheVariants.{Sweep}
use Rattle.faults.specs.Least.{unless, or_else}
use Rattle.algebra.specs.Polys.{Poly}
use Rattle.algebra.specs.Sweeps.{stepped}
use Rattle.algebra.specs.Words.{coeffs, words}
use Rattle.algebra.specs.Keys.{split, taken}
use Rattle.rings.specs.declared.ring.Ring.{Ring}
use Rattle.set.specs.declared.numbers.Numbers.{Numbers}
use Rattle.set.specs.declared.checked.Set.{Set}
use Rattle.sweeps.specs.Fit.{key_at}
use Rattle.sweeps.specs.Forms.{row_of}
use Rattle.sweeps.specs.Meaning.{turns}
use Rattle.sweeps.specs.Layout.{numbers_of, words_in, key_end, polys_in}

-- the digits D_i of the words of an accumulator
abbrev pub digits_of : Numbers → List ℕ → ℕ → Poly
digits_of n acc = split n.modulus n.dropped n.base n.digits acc

-- the accumulator taken by key j: the sum of D_i p_i
abbrev pub taken_by : Numbers → List (List ℕ) → ℕ → List ℕ → Poly
taken_by n keys j acc = taken n.degree n.digits (digits_of n acc) (key_at n.digits keys j)

-- an accumulator with (Y^e - 1) (old taken by key j) added
abbrev pub added_by : Numbers → ℕ → ℕ → List ℕ → List ℕ → List (List ℕ) → Poly
added_by n j e acc old keys = stepped n.degree (turns n e) (taken_by n keys j old) (coeffs acc)

-- taken by one key, as words
unfoldable pub taken_words : Numbers → List (List ℕ) → List ℕ → List ℕ
taken_words n key acc = words n.degree n.modulus (taken_by n key 0 acc)

-- the lists of the external product: accumulator, key, work memory, scratch
abbrev pub take_refused : Numbers → ℕ → ℕ → ℕ → ℕ → Option Fault
take_refused n acc key work scratch =
    or_else (unless (acc == n.degree) (Length 0 Sweep))
    (or_else (unless (key == n.digits * n.degree) (Length 1 Sweep))
    (or_else (unless (work == (n.digits + 1) * n.degree) (Length 2 Sweep))
    (unless (scratch == n.degree) (Length 3 Sweep))))

-- rows that read as the digits of an accumulator
abbrev pub Spread : Numbers → (List ℕ → List ℕ) → List ℕ → List ℕ → Type 0
Spread n reads acc rows =
    (i : ℕ) → i < n.digits → reads (row_of n.degree rows i) ≡ words n.degree n.modulus (digits_of n acc i)

-- what holds of a result, whatever accumulator the rows are the digits of
abbrev pub ForDigits : (Ring → List ℕ → List ℕ) → Set → ℕ → List ℕ → List ℕ → (List ℕ → List (List ℕ) → Poly) → List ℕ → Type 0
ForDigits reads s j keys rows result new =
    (old : List ℕ) (total : ℕ) → key_end s j ≤ total → Spread (numbers_of s) (reads s.ring) old rows
    → new ≡ words_in s (result old (polys_in reads s total keys))
