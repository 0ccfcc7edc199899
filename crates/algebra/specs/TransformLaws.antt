-- States the laws of values at the odd powers of a root z of X^N + 1 modulo Q, for N a power of two and Q odd, prime or not.
use Rattle.std.specs.Prelude.{◌≡◌, ℕ, ◌+◌, ◌-◌, ◌*◌, ◌/◌, ◌%◌, ◌^◌, ◌<◌, ℤ, pos, negsuc, ◌*ℤ◌, neg_ℤ}
use Rattle.std.proofs.Math.IntN.{pow}
use Rattle.algebra.specs.Ints.{Cong}
use Rattle.algebra.specs.Polys.{Poly, Alike, plus, scale, eval}
use Rattle.algebra.specs.Transform.{Block, interpolated}

pub record TransformLaws : Type 0 where
  -- each odd power of a root is a root, z^(2N - 1) the inverse of z, ((Q + 1)/2)^m that of 2^m
  pub roots : (Q N k : ℕ) (z : ℤ) → Cong Q (pow z N) (negsuc 0) → Cong Q (pow (pow z (2 * k + 1)) N) (negsuc 0)
  pub inverse : (Q N : ℕ) (z : ℤ) → 0 < N → Cong Q (pow z N) (negsuc 0) → Cong Q (z *ℤ pow z (N + N - 1)) (pos 1)
  pub halves : (Q m : ℕ) → Q % 2 ≡ 1 → Cong Q (pos (2 ^ m) *ℤ pow (pos (Q / 2 + 1)) m) (pos 1)
  -- the values settle the polynomial, and any values are those of a polynomial
  pub settled : (Q N m : ℕ) (z : ℤ) → N ≡ 2 ^ m → Q % 2 ≡ 1 → Cong Q (pow z N) (negsuc 0) → (a b : Poly)
      → ((j : ℕ) → j < N → Cong Q (eval N a (pow z (2 * j + 1))) (eval N b (pow z (2 * j + 1))))
      → Alike Q N a b
  pub interpolates : (Q N m : ℕ) (z : ℤ) → N ≡ 2 ^ m → Q % 2 ≡ 1 → Cong Q (pow z N) (negsuc 0) → (v : ℕ → ℤ) (j : ℕ) → j < N
      → Cong Q (eval N (interpolated Q N m z v) (pow z (2 * j + 1))) (v j)
  -- a block for c c is halved into one for c and one for -c, and a block of one coefficient is a value
  pub low : (Q N h : ℕ) (a b : Poly) (c d : ℤ) → Cong Q (c *ℤ c) d → Block Q N a (h + h) b d
      → Block Q N a h (plus b (scale c (λ i. b (h + i)))) c
  pub high : (Q N h : ℕ) (a b : Poly) (c d : ℤ) → Cong Q (c *ℤ c) d → Block Q N a (h + h) b d
      → Block Q N a h (plus b (scale (neg_ℤ c) (λ i. b (h + i)))) (neg_ℤ c)
  pub last : (Q N : ℕ) (a b : Poly) (c : ℤ) → Block Q N a 1 b c → Cong Q (b 0) (eval N a c)
