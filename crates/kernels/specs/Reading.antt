-- What holds of every kernel's forms.
use Rattle.std.specs.Prelude.{◌≡◌, ℕ, List}
use Rattle.rings.specs.declared.ring.Ring.{Ring}
use Rattle.kernels.specs.Polynomials.{InRing, poly_of, fused_in}

-- `reads` tells the polynomial that words read as, and `form` the one form of words below Q that a polynomial has
pub record OneForm (reads : Ring → List ℕ → List ℕ) (form : Ring → List ℕ → List ℕ) : Type 0 where
  -- what is read is a polynomial
  pub poly : (r : Ring) (w : List ℕ) → InRing r (reads r w)
  -- the form of a polynomial has words below Q, and reads as that polynomial
  pub below : (r : Ring) (p : List ℕ) → InRing r p → InRing r (form r p)
  pub back : (r : Ring) (p : List ℕ) → InRing r p → reads r (form r p) ≡ p
  -- no other words below Q read as it
  pub one : (r : Ring) (w : List ℕ) → InRing r w → form r (reads r w) ≡ w
  -- a word of Q and above reads as its remainder
  pub rest : (r : Ring) (w : List ℕ) → reads r w ≡ reads r (poly_of r w)

-- the form of c + a b, of the polynomials that three lists of words read as
abbrev pub folded : (Ring → List ℕ → List ℕ) → (Ring → List ℕ → List ℕ) → Ring → List ℕ → List ℕ → List ℕ → List ℕ
folded reads form r c a b = form r (fused_in r (reads r c) (reads r a) (reads r b))
