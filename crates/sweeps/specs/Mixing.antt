-- (X^j - 1) T added to an accumulator, place by place.
use Rattle.std.specs.Prelude.{◌≡◌, ℕ, ◌<◌, Bool, true, false, cond, List, length, ℤ, pos, ◌+ℤ◌, ◌-ℤ◌, neg_ℤ, slice_index}
use Rattle.sweeps.specs.declared.rotation.Sign.{Sign}
use Rattle.sweeps.specs.declared.rotation.Sign.TheVariants.{Plus, Minus}
use Rattle.algebra.specs.Polys.{Poly, wrapped}
use Rattle.algebra.specs.Words.{coeffs, word_of}

-- whether a sign turns a coefficient's
abbrev pub is_minus : Sign → Bool
is_minus Plus = false
is_minus Minus = true

-- a coefficient, with its sign turned where `back`
abbrev pub turned_if : Bool → ℤ → ℤ
turned_if back z = cond back (neg_ℤ z) z

-- a + moved - still, or a - moved - still
abbrev pub mixed : ℕ → Bool → ℕ → ℕ → ℕ → ℕ
mixed Q back a moved still = word_of Q (pos a +ℤ (turned_if back (pos moved) -ℤ pos still))

-- the accumulator with X^j T - T added, or -X^j T - T, for j at most N
abbrev pub mixed_poly : ℕ → Bool → ℕ → List ℕ → List ℕ → Poly
mixed_poly N back j sum acc k = coeffs acc k +ℤ (turned_if back (wrapped N j (coeffs sum) k) -ℤ coeffs sum k)

-- each place of one list mixed with the same place of two others
abbrev pub MixedEach : ℕ → Bool → List ℕ → List ℕ → List ℕ → List ℕ → Type 0
MixedEach Q back moved still acc new =
    (k : ℕ) → k < length acc → slice_index new k ≡ mixed Q back (slice_index acc k) (slice_index moved k) (slice_index still k)
