-- Defines one set with secrets and keys that fit, so that the law of a gate speaks of something.
use Rattle.std.specs.Prelude.{ℕ, ◌*◌, ◌^◌, cond, ℤ, pos, ◌*ℤ◌, ◌==◌, nat_lt}
use Rattle.algebra.specs.Polys.{Poly, one, scale}
use Rattle.algebra.specs.Keys.{gadget}
use Rattle.algebra.specs.Sweeps.{paired_noise}
use Rattle.algebra.specs.Gates.{Fits}

-- secrets and keys without noise that fit: f is 1, and s has four ones
abbrev pub example_secret : ℕ → ℕ
example_secret j = cond (nat_lt j 4) 1 0

abbrev pub example_start : ℕ → Poly
example_start i = scale (gadget 2048 16 i) one

abbrev pub example_row : ℕ → ℕ → ℕ → ℤ
example_row j i t = cond (t == 8) (one j *ℤ pos (32 ^ i)) (pos 0)

abbrev pub ExampleFits : Type 0
ExampleFits = Fits 64 8 128 2013265921 2048 16 5 1 32 4 (2 ^ 20) 32 4 1 4 (4 * paired_noise 64 5 16 1 1024 32)
    one example_secret example_start example_row
