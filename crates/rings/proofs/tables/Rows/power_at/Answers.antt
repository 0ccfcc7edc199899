use Rattle.std.proofs.Common.{◌≡◌, ℕ, ◌+◌, ◌-◌, ◌*◌, ◌/◌, ◌%◌, ◌^◌, ◌<◌, ◌≤◌, ap, ◌∙◌, arith, pow_pos, pow_mono}
use Rattle.rings.specs.Tables.{mirror, exponent}
use Rattle.rings.proofs.Mirrors.{one_shift, row_of, spot_low, half_low}
use Rattle.rings.proofs.tables.Rows.power_at.Goals as goal

row : (c : goal.Start) → c.args.i / c.args.self.now.half < c.args.self.now.log
row c = row_of c.args.self.now.log c.args.self.now.half c.args.i c.args.self.now.size c.requires

pub overflow_shl-m : goal.overflow_shl-m
overflow_shl-m c = omega (arith, row c, c.args.self.now.few.1)

pub overflow_sub-result-2 : goal.overflow_sub-result-2
overflow_sub-result-2 c = omega (arith, row c)

pub nonzero_rem-i-2 : goal.nonzero_rem-i-2
nonzero_rem-i-2 c =
    let s : ℕ = c.args.i / c.args.self.now.half in
    omega (arith, one_shift s (omega (arith, row c, c.args.self.now.few.1)), pow_pos s)

pub mirrored-requires : goal.mirrored-requires
mirrored-requires c = omega (arith, row c, c.args.self.now.few.1)

-- what is made of the mirrored number r of row s
record Made (log half s r v : ℕ) : Type 0 where
  few : r < 1024
  value : v ≡ 2 ^ (log - 1 - s) * (2 * r + 1)
  low : v < 2 * half
  half-few : half ≤ 512

made : (log half s r : ℕ) → log ≤ 10 → half ≡ 2 ^ (log - 1) → s < log → r < 2 ^ s
    → Made log half s r (1 * 2 ^ (log - 1 - s) % 18446744073709551616 * (2 * r + 1))
made log half s r few size row low =
    let p : 2 ^ s ≤ 2 ^ 10 = pow_mono {i = s} {j = 10} (omega arith) in
    let e : 1 * 2 ^ (log - 1 - s) % 18446744073709551616 ≡ 2 ^ (log - 1 - s) = one_shift (log - 1 - s) (omega arith) in
    let v = ap (λ i. i * (2 * r + 1)) e in
    record { few = omega arith; value = v; low = omega (arith, v, spot_low log half s r row size low); half-few = half_low log half few size }

here : (c : goal.After-mirrored)
    → Made c.args.self.now.log c.args.self.now.half (c.args.i / c.args.self.now.half) c.mirrored.result
    (1 * 2 ^ (c.args.self.now.log - 1 - c.args.i / c.args.self.now.half) % 18446744073709551616 * (2 * c.mirrored.result + 1))
here c =
    made c.args.self.now.log c.args.self.now.half (c.args.i / c.args.self.now.half) c.mirrored.result c.args.self.now.few.1 c.args.self.now.size
    (row_of c.args.self.now.log c.args.self.now.half c.args.i c.args.self.now.size c.requires)
    c.mirrored.ensures.low

pub overflow_mul-result : goal.overflow_mul-result
overflow_mul-result c = omega (arith, (here c).few)

pub overflow_add-result : goal.overflow_add-result
overflow_add-result c = omega (arith, (here c).few)

pub overflow_mul-result-2 : goal.overflow_mul-result-2
overflow_mul-result-2 c = omega (arith, (here c).low, (here c).half-few)

pub returns : goal.returns
unfolding exponent
returns c =
    let s : ℕ = c.args.i / c.args.self.now.half in
    let l = row_of c.args.self.now.log c.args.self.now.half c.args.i c.args.self.now.size c.requires in
    let m = ap (λ i. mirror s (c.args.i % c.args.self.now.half % i)) (one_shift s (omega (arith, l, c.args.self.now.few.1))) in
    record {
      same = (here c).value ∙ ap (λ i. 2 ^ (c.args.self.now.log - 1 - s) * (2 * i + 1)) (c.mirrored.ensures.same ∙ m);
      low = (here c).low;
    }
