-- Rounding a word of one modulus to another (modulus switching).
use Rattle.std.specs.Prelude.{ℕ, ◌%◌}
use Rattle.algebra.specs.Gates.{rounded}

-- the word c of modulus R becomes (2 c S + R) / (2 R), rounded down, modulo S
abbrev pub rounded_to : ℕ → ℕ → ℕ → ℕ
rounded_to R S c = rounded R S (c % R) % S
