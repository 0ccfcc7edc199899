-- Defines balanced digits: how a word of modulus R is split into d digits of base B, after its lowest part P is dropped.
use Rattle.std.specs.Prelude.{◌≡◌, ℕ, zero, suc, ◌-◌, ◌*◌, ◌/◌, ◌^◌, ◌<◌, ◌≤◌, cond, ◌⊎◌, ℤ, pos, ◌+ℤ◌, ◌-ℤ◌, ◌*ℤ◌, neg_ℤ, nat_lt}
use Rattle.algebra.specs.Ints.{sum_z, floor_z}

-- the word x stands for its representative above -R/2 and at most R/2
abbrev pub centred : ℕ → ℕ → ℤ
centred R x = cond (nat_lt R (2 * x)) (neg_ℤ (pos (R - x))) (pos x)

-- the number to split: v divided by P, to the nearest
abbrev pub lowered : ℕ → ℤ → ℤ
lowered P v = floor_z (v +ℤ pos (P / 2)) P

-- one step of the split: the rest, and the digit, which lies from -B/2 to B/2 - 1
abbrev pub rest_of : ℕ → ℤ → ℤ
rest_of B u = floor_z (u +ℤ pos (B / 2)) B

abbrev pub digit_of : ℕ → ℤ → ℤ
digit_of B u = u -ℤ pos B *ℤ rest_of B u

-- digit i of the d digits of u, of which the last is the rest that remains
unfoldable pub digit : ℕ → ℕ → ℤ → ℕ → ℤ
digit B zero u i = pos 0
digit B (suc zero) u i = u
digit B (suc (suc d)) u zero = digit_of B u
digit B (suc (suc d)) u (suc i) = digit B (suc d) (rest_of B u) i

-- the sum of digit i times B^i
unfoldable pub value : ℕ → ℕ → (ℕ → ℤ) → ℤ
value B d f = sum_z d (λ i. f i *ℤ pos (B ^ i))

-- digit i of the word x of modulus R
abbrev pub word_digit : ℕ → ℕ → ℕ → ℕ → ℕ → ℕ → ℤ
word_digit R P B d x i = digit B d (lowered P (centred R x)) i

-- the numbers of a split that loses at most P/2: all are so where P and B are powers of two, B not 1, and R is at most P B^d
pub record Covers (R P B d : ℕ) : Type 0 where
  pub some : 0 < d
  pub lowest : (P ≡ 1) ⊎ ((0 < P) × (P ≡ 2 * (P / 2)))
  pub even : (0 < B) × (B ≡ 2 * (B / 2))
  pub cover : R ≤ P * B ^ d
