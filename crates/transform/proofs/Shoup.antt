-- One conditional subtraction, and Shoup's product: both are exact.
use Rattle.std.proofs.Common.{◌≡◌, ℕ, ◌+◌, ◌-◌, ◌*◌, ◌/◌, ◌%◌, ◌<◌, ◌≤◌, sym, ap, ◌∙◌, mul-le-mul_right, mod-eq_of_lt, mul_assoc, add-mul, mul-le-mul_left, mul-lt-mul_of_pos_right, mul-add, div-mul-le_self, arith}
use native.Mathlib.Nat.{mod-eq-sub-mod, lt-div-mul-add, add-mul-mod_self_right}

pub once_low : (x Q : ℕ) → x < Q → x ≡ x % Q
once_low x Q h = sym (mod-eq_of_lt h)

pub once_high : (x Q : ℕ) → Q ≤ x → x < Q + Q → x - Q ≡ x % Q
once_high x Q h k =
    let l : x - Q < Q = omega arith in
    sym (mod-eq-sub-mod {n = x} {m = Q} h ∙ mod-eq_of_lt l)

-- x - y as the code makes it, modulo 2^32: its highest bit is its sign
abbrev wrapped : ℕ → ℕ → ℕ
wrapped x y = (x + (4294967296 - y)) % 4294967296

pub reduce_high : (x Q : ℕ) → x < Q + Q → Q < 2147483648 → wrapped x Q < 2147483648 → wrapped x Q ≡ x % Q
reduce_high x Q l f s =
    let h : Q ≤ x = omega arith in
    let e : wrapped x Q ≡ x - Q = omega arith in
    e ∙ once_high x Q h l

pub reduce_low : (x Q : ℕ) → x < Q + Q → Q < 2147483648 → 2147483648 ≤ wrapped x Q → x ≡ x % Q
reduce_low x Q l f s = let h : x < Q = omega arith in once_low x Q h

pub subtract_high : (u v Q : ℕ) → u < Q → v < Q → Q < 2147483648 → wrapped u v < 2147483648 → wrapped u v ≡ (u + (Q - v)) % Q
subtract_high u v Q a b f s =
    let h : v ≤ u = omega arith in
    let e : wrapped u v ≡ u + (Q - v) - Q = omega arith in
    e ∙ once_high (u + (Q - v)) Q (omega arith) (omega arith)

pub subtract_low : (u v Q : ℕ) → u < Q → v < Q → Q < 2147483648 → 2147483648 ≤ wrapped u v
    → (wrapped u v + Q) % 4294967296 ≡ (u + (Q - v)) % Q
subtract_low u v Q a b f s =
    let h : u < v = omega arith in
    let e : (wrapped u v + Q) % 4294967296 ≡ u + (Q - v) = omega arith in
    e ∙ once_low (u + (Q - v)) Q (omega arith)

-- a difference modulo 2^32 is exact where the difference is in range
wrap_sub : (a b : ℕ) → b ≤ a → a < b + 4294967296
    → (a % 4294967296 + (4294967296 - b % 4294967296)) % 4294967296 ≡ a - b
wrap_sub a b h k = omega arith

-- the quotient s of w, and the part h of x s above 2^32
bounds : (x w s Q h : ℕ) → 0 < Q → x < 4294967296 → s * Q ≤ w * 4294967296 → w * 4294967296 < s * Q + Q
    → 4294967296 * h ≤ x * s → x * s < 4294967296 * h + 4294967296
    → (h * Q ≤ x * w) × (x * w < h * Q + (Q + Q))
bounds x w s Q h hq hx a b c d =
    let p1 : x * (s * Q) ≤ x * (w * 4294967296) = mul-le-mul_left x a in
    let bb : w * 4294967296 ≤ s * Q + Q = omega arith in
    let p2 : x * (w * 4294967296) ≤ x * (s * Q + Q) = mul-le-mul_left x bb in
    let p3 : 4294967296 * h * Q ≤ x * s * Q = mul-le-mul_right Q c in
    let p4 : x * s * Q < (4294967296 * h + 4294967296) * Q = mul-lt-mul_of_pos_right d hq in
    let xx : x ≤ 4294967296 = omega arith in
    let p5 : x * Q ≤ 4294967296 * Q = mul-le-mul_right Q xx in
    let e1 : x * (s * Q + Q) ≡ x * (s * Q) + x * Q = mul-add x (s * Q) Q in
    let e2 : x * s * Q ≡ x * (s * Q) = mul_assoc x s Q in
    let e3 : 4294967296 * h * Q ≡ 4294967296 * (h * Q) = mul_assoc 4294967296 h Q in
    let e4 : (4294967296 * h + 4294967296) * Q ≡ 4294967296 * h * Q + 4294967296 * Q = add-mul (4294967296 * h) 4294967296 Q in
    let e5 : x * w * 4294967296 ≡ x * (w * 4294967296) = mul_assoc x w 4294967296 in
    (omega arith, omega arith)

shoup_bounds : (x w s Q : ℕ) → 0 < Q → x < 4294967296 → s ≡ w * 4294967296 / Q
    → (x * s / 4294967296 * Q ≤ x * w) × (x * w < x * s / 4294967296 * Q + (Q + Q))
shoup_bounds x w s Q hq hx e =
    let a : w * 4294967296 / Q * Q ≤ w * 4294967296 = div-mul-le_self (w * 4294967296) Q in
    let b : w * 4294967296 < w * 4294967296 / Q * Q + Q = lt-div-mul-add hq in
    let f : s * Q ≡ w * 4294967296 / Q * Q = ap (λ n. n * Q) e in
    bounds x w s Q (x * s / 4294967296) hq hx (omega arith) (omega arith) (omega arith) (omega arith)

-- the word that the code makes before its last subtraction
pub record Nearly (x w Q r : ℕ) : Type 0 where
  pub low : r < Q + Q
  pub same : r % Q ≡ x * w % Q

pub nearly : (x w s Q : ℕ) → w < Q → Q < 2147483648 → x < 4294967296 → s ≡ w * 4294967296 / Q
    → Nearly x w Q ((x * w % 4294967296 + (4294967296 - x * s / 4294967296 * Q % 4294967296)) % 4294967296)
nearly x w s Q hw hq hx e =
    let q0 : 0 < Q = omega arith in
    let h : ℕ = x * s / 4294967296 in
    let b : (h * Q ≤ x * w) × (x * w < h * Q + (Q + Q)) = shoup_bounds x w s Q q0 hx e in
    let top : x * w < h * Q + 4294967296 = omega arith in
    let d : (x * w % 4294967296 + (4294967296 - h * Q % 4294967296)) % 4294967296 ≡ x * w - h * Q =
    wrap_sub (x * w) (h * Q) b.0 top in
    let whole : x * w ≡ (x * w - h * Q) + h * Q = omega arith in
    record {
      low = omega arith;
      same = ap (λ n. n % Q) d ∙ (sym (add-mul-mod_self_right (x * w - h * Q) h Q) ∙ sym (ap (λ n. n % Q) whole));
    }
