-- The stated noises stay below 2^55.
use Rattle.std.specs.Prelude.{◌*◌, ◌/◌, ◌^◌, ◌≤◌}
use Rattle.std.proofs.Common.{arith}
use Rattle.set.specs.Noise.{single_noise, paired_noise}
use Rattle.set.specs.declared.within.Within.{Within}
use Rattle.set.proofs.Products.{product_small, drops_small, single_small, paired_small}

module _ (w : Within) where
  pub single_noise_small : single_noise w.numbers ≤ 2 ^ 55
  single_noise_small =
      let n = w.numbers in
      single_small n.dimension (n.degree * n.digits * n.base * n.noise) (2 * (n.dropped / 2) * n.weight) w.lengths.3
      (product_small n.degree n.digits n.base n.noise w.lengths.1 w.split.3 w.split.1 w.split.4)
      (drops_small (n.dropped / 2) n.weight (omega (arith, w.split)) (omega (arith, w.secrets, w.lengths)))

  pub paired_noise_small : paired_noise w.numbers ≤ 2 ^ 55
  paired_noise_small =
      let n = w.numbers in
      paired_small n.dimension (n.degree * n.digits * n.base * n.noise) (2 * (n.dropped / 2) * n.weight) w.lengths.3
      (product_small n.degree n.digits n.base n.noise w.lengths.1 w.split.3 w.split.1 w.split.4)
      (drops_small (n.dropped / 2) n.weight (omega (arith, w.split)) (omega (arith, w.secrets, w.lengths)))

  -- both limits of a sweep, for the single and for the paired one
  pub single_few : (single_noise w.numbers ≤ 2 ^ 55) × (w.numbers.dimension ≤ 2 ^ 14)
  single_few = (single_noise_small, omega (arith, w.lengths))

  pub paired_few : (paired_noise w.numbers ≤ 2 ^ 55) × (3 * (w.numbers.dimension / 2) ≤ 2 ^ 14)
  paired_few = (paired_noise_small, omega (arith, w.lengths))
