-- States the laws of the ring of integer polynomials modulo X^N + 1, for every N.
use Rattle.std.specs.Prelude.{ℕ, ◌+◌, ◌*◌, ℤ, negsuc, ◌*ℤ◌}
use Rattle.std.proofs.Math.IntN.{pow}
use Rattle.algebra.specs.Ints.{Cong}
use Rattle.algebra.specs.Polys.{Poly, Same, Within, one, plus, scale, monomial, mul, weight, eval}

pub record RingLaws : Type 0 where
  pub commutative : (N : ℕ) (p q : Poly) → Same N (mul N p q) (mul N q p)
  pub associative : (N : ℕ) (p q r : Poly) → Same N (mul N (mul N p q) r) (mul N p (mul N q r))
  pub distributive : (N : ℕ) (p q r : Poly) → Same N (mul N p (plus q r)) (plus (mul N p q) (mul N p r))
  pub unit : (N : ℕ) (p : Poly) → Same N (mul N p one) p
  -- X^i X^j = X^(i + j), X^N = -1, X^2N = 1
  pub exponents : (N i j : ℕ) → Same N (mul N (monomial N i) (monomial N j)) (monomial N (i + j))
  pub turns : (N : ℕ) → Same N (monomial N N) (scale (negsuc 0) one)
  pub wraps : (N : ℕ) → Same N (monomial N (N + N)) one
  -- how large the coefficients of a product are
  pub bounded : (N A B : ℕ) (p q : Poly) → Within N A p → Within N B q → Within N (N * A * B) (mul N p q)
  pub sparse : (N B : ℕ) (f q : Poly) → Within N B q → Within N (weight N f * B) (mul N f q)
  -- at a root of X^N + 1 modulo Q the value of a product is the product of the values
  pub values : (Q N : ℕ) (z : ℤ) → Cong Q (pow z N) (negsuc 0) → (p q : Poly)
      → Cong Q (eval N (mul N p q) z) (eval N p z *ℤ eval N q z)
