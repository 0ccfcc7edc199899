-- States the laws of balanced digits and of polynomials taken by keys.
use Rattle.std.specs.Prelude.{◌≡◌, ℕ, ◌+◌, ◌*◌, ◌/◌, ◌<◌, ◌≤◌, List, ℤ, pos, ◌+ℤ◌, ◌-ℤ◌, ◌*ℤ◌, neg_ℤ, ◌≤ℤ◌, ◌<ℤ◌, slice_index, unsigned_abs}
use Rattle.algebra.specs.Ints.{Cong}
use Rattle.algebra.specs.Polys.{Poly, scale, power, monomial, mul, weight}
use Rattle.algebra.specs.Near.{Nearby}
use Rattle.algebra.specs.Words.{coeffs}
use Rattle.algebra.specs.Digits.{centred, rest_of, digit_of, value, word_digit, Covers}
use Rattle.algebra.specs.Keys.{StartKey, Selector, bit, Splits, split, taken}

pub record GadgetLaws : Type 0 where
  -- one step: the digit lies from -B/2 to B/2 - 1, and B times the rest is what remains
  pub exact : (B : ℕ) (u : ℤ) → u ≡ digit_of B u +ℤ pos B *ℤ rest_of B u
  pub range : (B : ℕ) (u : ℤ) → 0 < B → B ≡ 2 * (B / 2) → (neg_ℤ (pos (B / 2)) ≤ℤ digit_of B u) × (digit_of B u <ℤ pos (B / 2))
  -- the digits of a word: each from -B/2 to B/2, together, times P, within P/2 of the word's representative
  pub small : (R P B d x : ℕ) → Covers R P B d → x < R → (i : ℕ) → unsigned_abs (word_digit R P B d x i) ≤ B / 2
  pub together : (R P B d x : ℕ) → Covers R P B d → x < R
      → unsigned_abs (pos P *ℤ value B d (word_digit R P B d x) -ℤ centred R x) ≤ P / 2
  pub represents : (R x : ℕ) → x < R → Cong R (centred R x) (pos x) × (2 * unsigned_abs (centred R x) ≤ R)
  pub splits : (Q N P B d : ℕ) (xs : List ℕ) → Covers Q P B d → ((k : ℕ) → k < N → slice_index xs k < Q)
      → Splits Q N P B d (B / 2) (P / 2) (coeffs xs) (split Q P B d xs)
  -- c taken by a start key, and by selectors of a bit and of a power of X
  pub started : (Q N P B d E b G : ℕ) (f c : Poly) (D p : ℕ → Poly) → Splits Q N P B d b G c D
      → StartKey Q N P B d E f p
      → Nearby Q N (N * d * b * E + G) (mul N f (taken N d D p)) c
  pub selected : (Q N P B d E b G : ℕ) (f c : Poly) (D p : ℕ → Poly) → Splits Q N P B d b G c D
      → (s F : ℕ) → weight N f ≤ F → Selector Q N P B d E f (bit s) p
      → Nearby Q N (N * d * b * E + s * (G * F)) (mul N f (taken N d D p)) (scale (pos s) (mul N f c))
  pub turned : (Q N P B d E b G : ℕ) (f c : Poly) (D p : ℕ → Poly) → Splits Q N P B d b G c D
      → (i F : ℕ) → weight N f ≤ F → Selector Q N P B d E f (monomial N i) p
      → Nearby Q N (N * d * b * E + G * F) (mul N f (taken N d D p)) (power N i (mul N f c))
