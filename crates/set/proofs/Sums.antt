-- How large the sum of all noises of a gate can be.
use Rattle.std.proofs.Common.{ℕ, ◌+◌, ◌*◌, ◌^◌, ◌<◌, ◌≤◌, arith}
use Rattle.std.proofs.lemmas.Nat.{mul-le}

pub first_small : (q m v : ℕ) → q ≤ 2048 → m ≤ 2 ^ 20 → v ≤ 2 ^ 65 → 2 * q * m * (v + 2) ≤ 2 ^ 100
first_small q m v hq hm hv =
    let x = mul-le (2 * q) m 4096 (2 ^ 20) (omega arith) hm in
    let y = mul-le (2 * q * m) (v + 2) (2 ^ 32) (2 ^ 66) (omega (arith, x)) (omega arith) in
    omega (arith, y)

pub second_small : (q r f w : ℕ) → q ≤ 2048 → r < 2 ^ 31 → f ≤ 1024 → w ≤ 31 * 2 ^ 36 → q * r * (1 + f + 2 * w) ≤ 2 ^ 100
second_small q r f w hq hr hf hw =
    let x = mul-le q r 2048 (2 ^ 31) hq (omega arith) in
    let y = mul-le (q * r) (1 + f + 2 * w) (2 ^ 42) (2 ^ 43) (omega (arith, x)) (omega arith) in
    omega (arith, y)

pub third_small : (r m h : ℕ) → r < 2 ^ 31 → m ≤ 2 ^ 20 → h ≤ 512 → r * m * (1 + h) ≤ 2 ^ 100
third_small r m h hr hm hh =
    let x = mul-le r m (2 ^ 31) (2 ^ 20) (omega arith) hm in
    let y = mul-le (r * m) (1 + h) (2 ^ 51) 513 (omega (arith, x)) (omega arith) in
    omega (arith, y)
