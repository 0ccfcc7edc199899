use Rattle.std.proofs.Common.{◌+◌, ◌*◌, ◌^◌, ◌≤◌, ℤ, ◌*ℤ◌, nat_abs, arith, w64, SFits}
use Rattle.std.proofs.lemmas.Nat.{mul-le}
use Rattle.std.proofs.lemmas.Int.{ints, to_z-of_z}
use Rattle.algebra.proofs.Norms.{abs_mul}
use Rattle.sweeps.proofs.paired.times.Goals as goal

fits : (z : ℤ) → nat_abs z ≤ 2 ^ 31 * (2 ^ 31 + 1) → SFits w64 z
fits z h = omega (arith, ints)

product_fits : (a b : ℤ) → nat_abs a ≤ 2 ^ 31 → nat_abs b ≤ 2 ^ 31 + 1 → SFits w64 (a *ℤ b)
product_fits a b h k = fits (a *ℤ b) (rw (abs_mul a b) (mul-le (nat_abs a) (nat_abs b) (2 ^ 31) (2 ^ 31 + 1) h k))

pub overflow_mul-result : goal.overflow_mul-result
overflow_mul-result c =
    let a = to_z-of_z w64 c.args.a c.ranges.a in
    let b = to_z-of_z w64 c.args.b c.ranges.b in
    rw (a, b) (product_fits c.args.a c.args.b c.requires.one c.requires.two)

pub returns : goal.returns
returns c =
    let a = to_z-of_z w64 c.args.a c.ranges.a in
    let b = to_z-of_z w64 c.args.b c.ranges.b in
    rw (a, b) (to_z-of_z w64 (c.args.a *ℤ c.args.b) (product_fits c.args.a c.args.b c.requires.one c.requires.two))
