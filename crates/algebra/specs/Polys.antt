-- Defines integer polynomials modulo X^N + 1: a polynomial is its coefficients, constant first, of which those below N count.
use Rattle.std.specs.Prelude.{◌≡◌, ℕ, zero, suc, ◌+◌, ◌-◌, ◌<◌, ◌≤◌, cond, ℤ, pos, ◌+ℤ◌, ◌-ℤ◌, ◌*ℤ◌, neg_ℤ, ◌==◌, nat_lt, unsigned_abs}
use Rattle.std.proofs.Math.IntN.{pow}
use Rattle.algebra.specs.Ints.{sum_z, Cong}

abbrev pub Poly : Type 0
Poly = ℕ → ℤ

-- equal as polynomials of length N
abbrev pub Same : ℕ → Poly → Poly → Type 0
Same N p q = (k : ℕ) → k < N → p k ≡ q k

-- congruent modulo Q, coefficient by coefficient
abbrev pub Alike : ℕ → ℕ → Poly → Poly → Type 0
Alike Q N p q = (k : ℕ) → k < N → Cong Q (p k) (q k)

-- every coefficient lies from -B to B
abbrev pub Within : ℕ → ℕ → Poly → Type 0
Within N B p = (k : ℕ) → k < N → unsigned_abs (p k) ≤ B

abbrev pub one : Poly
one zero = pos 1
one (suc k) = pos 0

abbrev pub plus : Poly → Poly → Poly
plus p q k = p k +ℤ q k

abbrev pub minus : Poly → Poly → Poly
minus p q k = p k -ℤ q k

-- the integer c times p
abbrev pub scale : ℤ → Poly → Poly
scale c p k = c *ℤ p k

-- X times q
abbrev pub shift : ℕ → Poly → Poly
shift zero q k = q k
shift (suc m) q zero = neg_ℤ (q m)
shift (suc m) q (suc k) = q k

-- X^i times q
unfoldable pub power : ℕ → ℕ → Poly → Poly
power N zero q = q
power N (suc i) q = shift N (power N i q)

-- X^i
abbrev pub monomial : ℕ → ℕ → Poly
monomial N i = power N i one

-- what X^i, for i at most N, brings to place k: what passes the end comes back with its sign turned
abbrev pub wrapped : ℕ → ℕ → Poly → Poly
wrapped N i q k = cond (nat_lt k i) (neg_ℤ (q (N + k - i))) (q (k - i))

-- the product: the signed schoolbook sum
unfoldable pub mul : ℕ → Poly → Poly → Poly
mul N p q k = sum_z N (λ i. p i *ℤ wrapped N i q k)

-- the sum of the absolute values of n coefficients, and how many are not 0: the same where all are -1, 0 or 1
unfoldable pub weight : ℕ → Poly → ℕ
weight zero f = 0
weight (suc n) f = weight n f + unsigned_abs (f n)

unfoldable pub nonzeros : ℕ → Poly → ℕ
nonzeros zero f = 0
nonzeros (suc n) f = nonzeros n f + cond (unsigned_abs (f n) == 0) 0 1

-- the value of p at z
unfoldable pub eval : ℕ → Poly → ℤ → ℤ
eval N p z = sum_z N (λ i. p i *ℤ pow z i)
