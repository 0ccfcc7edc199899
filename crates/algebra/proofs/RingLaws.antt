-- The laws of the ring, collected.
use Rattle.algebra.specs.Polys.{one}
use Rattle.algebra.specs.RingLaws.{RingLaws}
use Rattle.algebra.proofs.Powers.{power_2_n}
use Rattle.algebra.proofs.Poly.{mul_comm, mul_assoc, mul_plusʳ, mul-one, monomials, monomial_N}
use Rattle.algebra.proofs.Norms.{mul_norm, mul_sparse}
use Rattle.algebra.proofs.Eval.{eval_mul}

pub ring_laws : RingLaws
ring_laws = record {
  commutative = mul_comm;
  associative = mul_assoc;
  distributive = mul_plusʳ;
  unit = mul-one;
  exponents = monomials;
  turns = monomial_N;
  wraps = λ N. power_2_n N one;
  bounded = mul_norm;
  sparse = mul_sparse;
  values = eval_mul;
}
