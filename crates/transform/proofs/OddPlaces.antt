-- Mirroring twice gives the number back, so the places go through the odd numbers.
use Rattle.std.proofs.Common.{◌≡◌, ℕ, zero, suc, ◌+◌, ◌*◌, ◌/◌, ◌%◌, ◌^◌, ◌<◌, sym, ap, ◌∙◌, mul_left_comm, arith}
use native.Mathlib.Nat.{pow-succ'}
use Rattle.rings.specs.Tables.{mirror}
use Rattle.rings.proofs.Mirrors.{mirror_low}
use Rattle.transform.specs.Order.{EachOddOnce}

-- the highest bit becomes the lowest
high_bit : (s x d : ℕ) → x < 2 ^ s → d < 2 → mirror (suc s) (x + d * 2 ^ s) ≡ 2 * mirror s x + d
high_bit zero x d l h = omega arith
high_bit (suc s) x d l h =
    let p : 2 ^ suc s ≡ 2 * 2 ^ s = pow-succ' 2 s in
    let e : d * 2 ^ suc s ≡ 2 * (d * 2 ^ s) = ap (λ i. d * i) p ∙ mul_left_comm d 2 (2 ^ s) in
    let f : x % 2 * 2 ^ suc s ≡ 2 * (x % 2 * 2 ^ s) = ap (λ i. x % 2 * i) p ∙ mul_left_comm (x % 2) 2 (2 ^ s) in
    let rest : (x + d * 2 ^ suc s) / 2 ≡ x / 2 + d * 2 ^ s = omega arith in
    let bit : (x + d * 2 ^ suc s) % 2 ≡ x % 2 = omega arith in
    let i : mirror (suc s) (x / 2 + d * 2 ^ s) ≡ 2 * mirror s (x / 2) + d = high_bit s (x / 2) d (omega arith) h in
    let g : mirror (suc (suc s)) (x + d * 2 ^ suc s) ≡ mirror (suc s) (x / 2 + d * 2 ^ s) + x % 2 * 2 ^ suc s =
    ap (λ j. mirror (suc s) j + (x + d * 2 ^ suc s) % 2 * 2 ^ suc s) rest
    ∙ ap (λ j. mirror (suc s) (x / 2 + d * 2 ^ s) + j * 2 ^ suc s) bit in
    g ∙ (ap (λ j. j + x % 2 * 2 ^ suc s) i ∙ omega arith)

pub mirror_twice : (s b : ℕ) → b < 2 ^ s → mirror s (mirror s b) ≡ b
mirror_twice zero b l = omega arith
mirror_twice (suc s) b l =
    let p : 2 ^ suc s ≡ 2 * 2 ^ s = pow-succ' 2 s in
    let i : mirror s (mirror s (b / 2)) ≡ b / 2 = mirror_twice s (b / 2) (omega arith) in
    high_bit s (mirror s (b / 2)) (b % 2) (mirror_low s (b / 2)) (omega arith) ∙ (ap (λ j. 2 * j + b % 2) i ∙ omega arith)

pub each_odd_once : EachOddOnce
each_odd_once n = record {
  odd = λ k. omega arith;
  low = λ k. omega (arith, mirror_low n k);
  once = λ j k a b e.
      let m : mirror n j ≡ mirror n k = omega arith in
      sym (mirror_twice n j a) ∙ (ap (λ i. mirror n i) m ∙ mirror_twice n k b);
  each = λ m o l.
      let h : m / 2 < 2 ^ n = omega arith in
      (mirror n (m / 2), (mirror_low n (m / 2), ap (λ i. 2 * i + 1) (mirror_twice n (m / 2) h) ∙ omega arith));
}
