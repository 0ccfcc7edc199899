-- How large the noises can be.
use Rattle.std.proofs.Common.{ℕ, ◌+◌, ◌*◌, ◌/◌, ◌^◌, ◌≤◌, arith}
use Rattle.std.proofs.lemmas.Nat.{mul-le}

pub product_small : (l d b e : ℕ) → l ≤ 1024 → d ≤ 31 → b ≤ 65536 → e ≤ 1024 → l * d * b * e ≤ 31 * 2 ^ 36
product_small l d b e hl hd hb he =
    let x = mul-le l d 1024 31 hl hd in
    let y = mul-le (l * d) b 31744 65536 x hb in
    mul-le (l * d * b) e 2080374784 1024 y he

pub drops_small : (g f : ℕ) → g ≤ 32768 → f ≤ 1024 → 2 * g * f ≤ 2 ^ 26
drops_small g f hg hf = mul-le (2 * g) f 65536 1024 (omega arith) hf

pub single_small : (n keys drops : ℕ) → n ≤ 512 → keys ≤ 31 * 2 ^ 36 → drops ≤ 2 ^ 26 → n * (keys + drops) ≤ 2 ^ 55
single_small n keys drops hn hk hd = let x = mul-le n (keys + drops) 512 (2 ^ 42) hn (omega arith) in omega (arith, x)

pub paired_small : (n keys drops : ℕ) → n ≤ 512 → keys ≤ 31 * 2 ^ 36 → drops ≤ 2 ^ 26 → n / 2 * (3 * keys + drops) ≤ 2 ^ 55
paired_small n keys drops hn hk hd = let x = mul-le (n / 2) (3 * keys + drops) 256 (2 ^ 44) (omega arith) (omega arith) in omega (arith, x)
