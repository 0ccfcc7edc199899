use Rattle.std.proofs.Common.{ℕ, ◌+◌, ◌*◌, ◌^◌, ◌≤◌, arith}
use Rattle.set.specs.declared.within.Within.{Within}
use Rattle.set.proofs.Sums.{first_small, second_small, third_small}
use Rattle.set.proofs.close.gate_noise.Goals as goal

first : (w : Within) (v : ℕ) → v ≤ 2 ^ 65 → 2 * w.numbers.small * w.numbers.switch * (v + 2) ≤ 2 ^ 100
first w v h = first_small w.numbers.small w.numbers.switch v (let a = w.lengths in let b = w.moduli in omega arith) w.switching.1 h

second : (w : Within) (x : ℕ) → x ≤ 31 * 2 ^ 36 → w.numbers.small * w.numbers.modulus * (1 + w.numbers.weight + 2 * x) ≤ 2 ^ 100
second w x h =
    second_small w.numbers.small w.numbers.modulus w.numbers.weight x
    (let a = w.lengths in let b = w.moduli in omega arith) w.moduli.3 (let a = w.lengths in let b = w.secrets.0 in omega arith) h

third : (w : Within) → w.numbers.modulus * w.numbers.switch * (1 + w.numbers.ones) ≤ 2 ^ 100
third w = third_small w.numbers.modulus w.numbers.switch w.numbers.ones w.moduli.3 w.switching.1 (let a = w.lengths.3 in let b = w.secrets.1 in omega arith)

pub overflow_mul-first-3 : goal.overflow_mul-first-3
overflow_mul-first-3 c = omega (arith, first c.args.within.now c.args.swept c.requires.swept)

pub overflow_add-result : goal.overflow_add-result
overflow_add-result c = omega (arith, first c.args.within.now c.args.swept c.requires.swept, second c.args.within.now c.args.switched c.requires.switched)

pub overflow_add-result-2 : goal.overflow_add-result-2
overflow_add-result-2 c =
    omega (arith, first c.args.within.now c.args.swept c.requires.swept, second c.args.within.now c.args.switched c.requires.switched, third c.args.within.now)
