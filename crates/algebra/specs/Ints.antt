-- Defines sums of integers, congruence modulo Q, and division rounded down.
use Rattle.std.specs.Prelude.{◌≡◌, ℕ, zero, suc, ◌/◌, ℤ, pos, negsuc, ◌+ℤ◌, ◌*ℤ◌}

-- f 0 + f 1 + .. + f (n - 1)
unfoldable pub sum_z : ℕ → (ℕ → ℤ) → ℤ
sum_z zero f = pos 0
sum_z (suc n) f = sum_z n f +ℤ f n

-- a and b differ by a multiple of Q
pub record Cong (Q : ℕ) (a b : ℤ) : Type 0 where
  pub times : ℤ
  pub is : a ≡ b +ℤ pos Q *ℤ times

-- z divided by d, rounded down
abbrev pub floor_z : ℤ → ℕ → ℤ
floor_z (pos a) d = pos (a / d)
floor_z (negsuc a) d = negsuc (a / d)
