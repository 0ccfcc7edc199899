-- Defines what it is for keys to fit a ring secret f, and a polynomial taken by a key.
use Rattle.std.specs.Prelude.{ℕ, ◌*◌, ◌^◌, ◌<◌, List, ℤ, pos, ◌*ℤ◌, slice_index}
use Rattle.algebra.specs.Ints.{sum_z}
use Rattle.algebra.specs.Polys.{Poly, Within, one, scale, mul}
use Rattle.algebra.specs.Near.{Nearby}
use Rattle.algebra.specs.Digits.{word_digit}

-- P B^i
abbrev pub gadget : ℕ → ℕ → ℕ → ℤ
gadget P B i = pos (P * B ^ i)

-- d polynomials p with f p_i = P B^i t + noise modulo Q, the noise from -E to E
abbrev pub Key : ℕ → ℕ → ℕ → ℕ → ℕ → ℕ → Poly → Poly → (ℕ → Poly) → Type 0
Key Q N P B d E f t p = (i : ℕ) → i < d → Nearby Q N E (mul N f (p i)) (scale (gadget P B i) t)

-- a start key is one of 1, a selector of m one of m f
abbrev pub StartKey : ℕ → ℕ → ℕ → ℕ → ℕ → ℕ → Poly → (ℕ → Poly) → Type 0
StartKey Q N P B d E f p = Key Q N P B d E f one p

abbrev pub Selector : ℕ → ℕ → ℕ → ℕ → ℕ → ℕ → Poly → Poly → (ℕ → Poly) → Type 0
Selector Q N P B d E f m p = Key Q N P B d E f (mul N m f) p

-- the message of a selector of the bit s
abbrev pub bit : ℕ → Poly
bit s = scale (pos s) one

-- D are digits of the polynomial c: none above b, and together near c
pub record Splits (Q N P B d b G : ℕ) (c : Poly) (D : ℕ → Poly) : Type 0 where
  pub digits : (i : ℕ) → i < d → Within N b (D i)
  pub together : Nearby Q N G (λ k. sum_z d (λ i. gadget P B i *ℤ D i k)) c

-- the digits of N words: D_i holds their i-th digits
abbrev pub split : ℕ → ℕ → ℕ → ℕ → List ℕ → ℕ → Poly
split Q P B d xs i k = word_digit Q P B d (slice_index xs k) i

-- the polynomial with the digits D taken by the key p: the sum of D_i p_i
unfoldable pub taken : ℕ → ℕ → (ℕ → Poly) → (ℕ → Poly) → Poly
taken N d D p k = sum_z d (λ i. mul N (D i) (p i) k)
