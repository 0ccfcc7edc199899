-- Finite sums of integers.
use Rattle.std.proofs.Common.{◌≡◌, ℕ, zero, suc, ◌+◌, ◌*◌, ◌<◌, ◌≤◌, ℤ, pos, ◌+ℤ◌, ◌*ℤ◌, neg_ℤ, nat_abs, sym, refl, ap₂, add-zero, add-suc, arith}
use native.Mathlib.Decide.{ℕ_discrete}
use borrow.Author.Differences.{ints}
use lib.IntN.{*ℤ-zero}
use Rattle.algebra.proofs.Ring.{expand}
use Rattle.algebra.specs.Ints.{sum_z}

-- sums of equal terms, of no terms but zeros, of sums, of multiples
pub sum_same : (n : ℕ) (f g : ℕ → ℤ) → ((i : ℕ) → i < n → f i ≡ g i) → sum_z n f ≡ sum_z n g
unfolding sum_z
sum_same zero f g h = refl
sum_same (suc n) f g h = ap₂ ◌+ℤ◌ (sum_same n f g (λ i l. h i (omega arith))) (h n (omega arith))

pub sum_zero : (n : ℕ) (f : ℕ → ℤ) → ((i : ℕ) → i < n → f i ≡ pos 0) → sum_z n f ≡ pos 0
unfolding sum_z
sum_zero zero f h = refl
sum_zero (suc n) f h = rw (sum_zero n f (λ i l. h i (omega arith)), h n (omega arith)) refl

pub sum_add : (n : ℕ) (f g : ℕ → ℤ) → sum_z n (λ i. f i +ℤ g i) ≡ sum_z n f +ℤ sum_z n g
unfolding sum_z
sum_add zero f g = refl
sum_add (suc n) f g = rw (sum_add n f g) (omega (arith, ints))

pub sum_neg : (n : ℕ) (f : ℕ → ℤ) → sum_z n (λ i. neg_ℤ (f i)) ≡ neg_ℤ (sum_z n f)
unfolding sum_z
sum_neg zero f = refl
sum_neg (suc n) f = rw (sum_neg n f) (omega (arith, ints))

pub sum_scale : (n : ℕ) (c : ℤ) (f : ℕ → ℤ) → sum_z n (λ i. c *ℤ f i) ≡ c *ℤ sum_z n f
unfolding sum_z
sum_scale zero c f = sym (*ℤ-zero c)
sum_scale (suc n) c f = rw (sum_scale n c f) (simp expand (omega (arith, ints)))

-- two sums change places
pub sum_swap : (n m : ℕ) (f : ℕ → ℕ → ℤ) → sum_z n (λ i. sum_z m (λ j. f i j)) ≡ sum_z m (λ j. sum_z n (λ i. f i j))
unfolding sum_z
sum_swap zero m f = sym (sum_zero m (λ j. pos 0) (λ i l. refl))
sum_swap (suc n) m f = rw (sum_swap n m f) (sym (sum_add m (λ j. sum_z n (λ i. f i j)) (λ j. f n j)))

-- the first term taken out, a sum cut in two, the only term that is not 0
pub sum_front : (n : ℕ) (f : ℕ → ℤ) → sum_z (suc n) f ≡ f 0 +ℤ sum_z n (λ i. f (suc i))
unfolding sum_z
sum_front zero f = omega (arith, ints)
sum_front (suc n) f = rw (sum_front n f) (omega (arith, ints))

pub sum_split : (a b : ℕ) (f : ℕ → ℤ) → sum_z (a + b) f ≡ sum_z a f +ℤ sum_z b (λ i. f (a + i))
unfolding sum_z
sum_split a zero f = rw add-zero (omega (arith, ints))
sum_split a (suc b) f = rw (add-suc, sum_split a b f) (omega (arith, ints))

pub sum_one : (n k : ℕ) (f : ℕ → ℤ) → k < n → ((i : ℕ) → i < n → ¬ (i ≡ k) → f i ≡ pos 0) → sum_z n f ≡ f k
unfolding sum_z
sum_one zero k f l h = absurd (omega arith)
sum_one (suc n) k f l h = elim (ℕ_discrete n k) [
  | yes e ↦ rw (sum_zero n f (λ i b. h i (omega arith) (λ d. omega arith)), e) (omega (arith, ints))
  | no d ↦ rw (sum_one n k f (omega arith) (λ i b. h i (omega arith)), h n (omega arith) d) (omega (arith, ints))
]

-- the absolute value of a sum
pub abs_add : (a b : ℤ) → nat_abs (a +ℤ b) ≤ nat_abs a + nat_abs b
abs_add a b = omega (arith, ints)

pub sum_bound : (n B : ℕ) (f : ℕ → ℤ) → ((i : ℕ) → i < n → nat_abs (f i) ≤ B) → nat_abs (sum_z n f) ≤ n * B
unfolding sum_z
sum_bound zero B f h = omega arith
sum_bound (suc n) B f h =
    omega (arith, abs_add (sum_z n f) (f n), sum_bound n B f (λ i l. h i (omega arith)), h n (omega arith))
