-- Sets checked for a sweep.
use Rattle.std.specs.Prelude.{◌≡◌, ℕ}
use Rattle.set.specs.declared.numbers.Numbers.{Numbers}
use Rattle.set.specs.declared.within.Within.{Within}

-- what a sweep states for these numbers, wherever they are within their limits
abbrev pub StatedFor : (Within → ℕ) → Numbers → ℕ → Type 0
StatedFor noise numbers stated = (w : Within) → w.numbers ≡ numbers → noise w ≡ stated
