-- Rows of forms read as polynomials.
use Rattle.std.proofs.Common.{◌≡◌, ℕ, ◌<◌, List, [], length, get_or, sym, subst, arith}
use Rattle.std.proofs.lemmas.List.FromFn.{length-map-range_with_len, get_or-map-range_with_len}
use Rattle.rings.specs.declared.ring.Ring.{Ring}
use Rattle.kernels.specs.Polynomials.{IsPoly}
use Rattle.kernels.specs.Reading.{OneForm}
use Rattle.set.specs.declared.checked.Set.{Set}
use Rattle.sweeps.specs.Forms.{row_of, read_rows, ArePolys}

pub read_long : (reads : List ℕ → List ℕ) (N count : ℕ) (ws : List ℕ) → length (read_rows reads N count ws) ≡ count
unfolding read_rows
read_long reads N count ws = length-map-range_with_len (λ i. reads (row_of N ws i)) 0 count

read_at : (reads : List ℕ → List ℕ) (N count : ℕ) (ws : List ℕ) (i : ℕ) → i < count → get_or (read_rows reads N count ws) i [] ≡ reads (row_of N ws i)
unfolding read_rows
read_at reads N count ws i l = get_or-map-range_with_len (λ i. reads (row_of N ws i)) 0 count i i [] l (omega arith)

pub read_polys : (reads form : Ring → List ℕ → List ℕ) → OneForm reads form → (set : Set) (count : ℕ) (ws : List ℕ)
    → ArePolys set.within.numbers.degree set.within.numbers.modulus (read_rows (reads set.ring) set.within.numbers.degree count ws)
read_polys reads form one set count ws i l =
    let N : ℕ = set.within.numbers.degree in
    let k : i < count = subst (λ (m : ℕ). i < m) (read_long (reads set.ring) N count ws) l in
    subst (λ (p : List ℕ). IsPoly set.within.numbers.degree set.within.numbers.modulus p) (sym (read_at (reads set.ring) N count ws i k))
    (subst (λ (m : ℕ). IsPoly m set.within.numbers.modulus (reads set.ring (row_of N ws i))) set.same.0
    (subst (λ (q : ℕ). IsPoly set.ring.degree q (reads set.ring (row_of N ws i))) set.same.1 (one.poly set.ring (row_of N ws i))))
