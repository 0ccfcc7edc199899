-- The noise of one gate, in the worst case: what a set has to close.
use Rattle.std.specs.Prelude.{ℕ, ◌+◌, ◌*◌, ◌/◌}
use Rattle.set.specs.declared.numbers.Numbers.{Numbers}
use Rattle.set.specs.declared.steps.Steps.{Steps}
use Rattle.set.specs.declared.steps.Steps.TheVariants.{Single, Paired}

-- G: half of the dropped part, rounded down
abbrev pub drop_of : Numbers → ℕ
drop_of n = n.dropped / 2

-- V: the noise of the start key and of the sweep, whose stated noise is handed
abbrev pub swept_noise : Numbers → ℕ → ℕ
swept_noise n stated = n.degree * n.digits * (n.base / 2) * n.noise + drop_of n + stated

-- W: the noise of the switch
abbrev pub switch_noise : Numbers → ℕ
switch_noise n = n.degree * n.places * (n.radix / 2) * n.jitter

-- the stated noise of the single sweep, and of the paired one
abbrev pub single_noise : Numbers → ℕ
single_noise n = n.dimension * (n.degree * n.digits * n.base * n.noise + 2 * drop_of n * n.weight)

abbrev pub paired_noise : Numbers → ℕ
paired_noise n = n.dimension / 2 * (3 * (n.degree * n.digits * n.base * n.noise) + 2 * drop_of n * n.weight)

-- the stated noise of a sweep, by its steps
abbrev pub stated_noise : Steps → Numbers → ℕ
stated_noise Single n = single_noise n
stated_noise Paired n = paired_noise n
