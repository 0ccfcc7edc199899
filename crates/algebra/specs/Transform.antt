-- Defines what a transform goes through: blocks of a polynomial, and the polynomial of given values.
use Rattle.std.specs.Prelude.{ℕ, ◌+◌, ◌-◌, ◌*◌, ◌/◌, ℤ, pos, ◌*ℤ◌}
use Rattle.std.proofs.Math.IntN.{pow}
use Rattle.algebra.specs.Ints.{Cong, sum_z}
use Rattle.algebra.specs.Polys.{Poly, eval}

-- the block b of len coefficients has the values of a, of N coefficients, at each root of X^len - c
abbrev pub Block : ℕ → ℕ → Poly → ℕ → Poly → ℤ → Type 0
Block Q N a len b c = (z : ℤ) → Cong Q (pow z len) c → Cong Q (eval len b z) (eval N a z)

-- the polynomial with the values v at the odd powers of z, for N = 2^m, odd Q and z^N = -1
unfoldable pub interpolated : ℕ → ℕ → ℕ → ℤ → (ℕ → ℤ) → Poly
interpolated Q N m z v k = pow (pos (Q / 2 + 1)) m *ℤ sum_z N (λ i. v i *ℤ pow (pow z (N + N - 1)) ((2 * i + 1) * k))
