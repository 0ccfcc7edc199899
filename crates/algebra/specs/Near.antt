-- Defines what it is to agree modulo Q up to a noise.
use Rattle.std.specs.Prelude.{ℕ, ◌<◌, ◌≤◌, ℤ, ◌+ℤ◌, unsigned_abs}
use Rattle.algebra.specs.Ints.{Cong}
use Rattle.algebra.specs.Polys.{Poly}

-- a is b modulo Q, up to a noise from -V to V
pub record Near (Q V : ℕ) (a b : ℤ) : Type 0 where
  pub noise : ℤ
  pub is : Cong Q a (b +ℤ noise)
  pub small : unsigned_abs noise ≤ V

-- so for each of the N coefficients
abbrev pub Nearby : ℕ → ℕ → ℕ → Poly → Poly → Type 0
Nearby Q N V p q = (k : ℕ) → k < N → Near Q V (p k) (q k)
