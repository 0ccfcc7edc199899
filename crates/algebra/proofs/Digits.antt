-- Balanced digits: they are small, and together they are the number that was split.
use Rattle.std.proofs.Common.{◌≡◌, ℕ, zero, suc, ◌+◌, ◌*◌, ◌/◌, ◌^◌, ◌<◌, ◌≤◌, ◌⊎◌, ℤ, pos, negsuc, ◌+ℤ◌, ◌-ℤ◌, ◌*ℤ◌, neg_ℤ, nat_abs, ◌≤ℤ◌, ◌<ℤ◌, sym, refl, ap, ◌∙◌, subst, inl, inr, mul-le-mul_left, arith, pow_pos, le-ltb, lt-ltb}
use native.Mathlib.Decide.{dec_lt}
use native.Mathlib.Nat.{pow-succ', pow-zero}
use borrow.Author.Differences.{ints, up, down}
use Rattle.algebra.proofs.Ring.{expand, *ℤ-left}
use Rattle.algebra.proofs.Sums.{sum_same, sum_scale, sum_front}
use Rattle.algebra.proofs.Cong.{same}
use Rattle.algebra.specs.Ints.{Cong, floor_z, sum_z}
use Rattle.algebra.specs.Digits.{centred, lowered, rest_of, digit_of, digit, value, word_digit, Covers}

-- division rounded down
pub floor_is : (z : ℤ) (d : ℕ) → 0 < d → ((pos d *ℤ floor_z z d) ≤ℤ z) × (z <ℤ (pos d *ℤ floor_z z d +ℤ pos d))
floor_is (pos a) d h = (omega (arith, ints), omega (arith, ints))
floor_is (negsuc a) d h = (omega (arith, ints), omega (arith, ints))

pub cancel_lt : (d : ℕ) (a b : ℤ) → (pos d *ℤ a) <ℤ (pos d *ℤ b) → a <ℤ b
cancel_lt d a b h = elim (dec_lt (up a + down b) (up b + down a)) [
  | yes l ↦ omega (arith, ints)
  | no n ↦ absurd (over (omega (arith, n)))
]
  where
    over : up b + down a ≤ up a + down b → ⊥
    over l = omega (arith, ints, mul-le-mul_left d l)

pub floor_bound : (P G H : ℕ) (v : ℤ) → G < P → nat_abs v ≤ P * H → nat_abs (floor_z (v +ℤ pos G) P) ≤ H
floor_bound P G H v g h =
    let f = floor_is (v +ℤ pos G) P (omega arith) in
    let a : (pos P *ℤ floor_z (v +ℤ pos G) P) <ℤ (pos P *ℤ pos (suc H)) = omega (arith, ints) in
    let b : (pos P *ℤ negsuc H) <ℤ (pos P *ℤ floor_z (v +ℤ pos G) P) = omega (arith, ints) in
    let c : floor_z (v +ℤ pos G) P <ℤ pos (suc H) = cancel_lt P _ _ a in
    let d : negsuc H <ℤ floor_z (v +ℤ pos G) P = cancel_lt P _ _ b in
    omega (arith, ints)

-- one step: the digit and B times the rest make u, and the digit lies from -B/2 to B/2 - 1
pub step_is : (B : ℕ) (u : ℤ) → u ≡ digit_of B u +ℤ pos B *ℤ rest_of B u
step_is B u = back u (pos B *ℤ rest_of B u)
  where
    back : (u x : ℤ) → u ≡ (u -ℤ x) +ℤ x
    back u x = omega (arith, ints)

pub step_range : (B : ℕ) (u : ℤ) → 0 < B → B ≡ 2 * (B / 2)
    → (neg_ℤ (pos (B / 2)) ≤ℤ digit_of B u) × (digit_of B u <ℤ pos (B / 2))
step_range B u h e = let f = floor_is (u +ℤ pos (B / 2)) B h in (omega (arith, ints), omega (arith, ints))

-- the digits make u
pub digits_sum : (B d : ℕ) (u : ℤ) → 0 < d → value B d (digit B d u) ≡ u
unfolding value digit sum_z
digits_sum B zero u h = absurd (omega arith)
digits_sum B (suc zero) u h = rw (pow-zero B) (omega (arith, ints))
digits_sum B (suc (suc d)) u h =
    sum_front (suc d) (λ i. digit B (suc (suc d)) u i *ℤ pos (B ^ i))
    ∙ ap (λ (n : ℕ). digit_of B u *ℤ pos n +ℤ sum_z (suc d) (λ i. digit B (suc d) (rest_of B u) i *ℤ pos (B ^ suc i))) (pow-zero B)
    ∙ ap (λ (x : ℤ). digit_of B u *ℤ pos 1 +ℤ x) (
    sum_same (suc d) (λ i. digit B (suc d) (rest_of B u) i *ℤ pos (B ^ suc i)) _ (λ i l.
    ap (λ (n : ℕ). digit B (suc d) (rest_of B u) i *ℤ pos n) (pow-succ' B i)
    ∙ *ℤ-left (digit B (suc d) (rest_of B u) i) (pos B) (pos (B ^ i)))
    ∙ sum_scale (suc d) (pos B) (λ i. digit B (suc d) (rest_of B u) i *ℤ pos (B ^ i))
    ∙ ap (λ (x : ℤ). pos B *ℤ x) (digits_sum B (suc d) (rest_of B u) (omega arith)))
    ∙ join u (pos B *ℤ rest_of B u)
  where
    join : (u x : ℤ) → (u -ℤ x) *ℤ pos 1 +ℤ x ≡ u
    join u x = simp expand (omega (arith, ints))

-- every digit is small, where the number is
pub digits_bound : (B d : ℕ) (u : ℤ) → 0 < B → B ≡ 2 * (B / 2) → nat_abs u ≤ B / 2 * B ^ d → (i : ℕ) → nat_abs (digit B (suc d) u i) ≤ B / 2
unfolding digit
digits_bound B zero u h e l i = omega (arith, rw (pow-zero B) at l)
digits_bound B (suc d) u h e l zero = let r = step_range B u h e in omega (arith, ints)
digits_bound B (suc d) u h e l (suc i) = digits_bound B d (rest_of B u) h e
    (floor_bound B (B / 2) (B / 2 * B ^ d) u (omega arith)
    (let p : B ^ suc d ≡ B * B ^ d = pow-succ' B d in omega (arith, rw p at l))) i

-- the number to split, times P, is near v
pub lowered_near : (P : ℕ) (v : ℤ) → (P ≡ 1) ⊎ ((0 < P) × (P ≡ 2 * (P / 2))) → nat_abs (pos P *ℤ lowered P v -ℤ v) ≤ P / 2
lowered_near P v (inl e) = let f = floor_is (v +ℤ pos (P / 2)) P (omega arith) in omega (arith, ints)
lowered_near P v (inr e) = let f = floor_is (v +ℤ pos (P / 2)) P e.0 in omega (arith, ints, e.1)

-- the representative is small, and congruent to the word
pub centred_small : (R x : ℕ) → x < R → 2 * nat_abs (centred R x) ≤ R
centred_small R x l = grind (arith, ints)

pub centred_cong : (R x : ℕ) → x < R → Cong R (centred R x) (pos x)
centred_cong R x l = elim (dec_lt R (2 * x)) [ yes b ↦ above b | no n ↦ below (omega (arith, n)) ]
  where
    above : R < 2 * x → Cong R (centred R x) (pos x)
    above b = rw (lt-ltb R (2 * x) b) (record { times = negsuc 0; is = omega (arith, ints) })

    below : 2 * x ≤ R → Cong R (centred R x) (pos x)
    below b = rw (le-ltb R (2 * x) b) (same R _ _ refl)

-- powers of two cover
pub covers_powers : (R p b d : ℕ) → 0 < d → R ≤ 2 ^ p * (2 ^ suc b) ^ d → Covers R (2 ^ p) (2 ^ suc b) d
covers_powers R p b d some cover = record {
  some = some;
  lowest = by p;
  even = (pow_pos (suc b), omega arith);
  cover = cover;
}
  where
    by : (p : ℕ) → (2 ^ p ≡ 1) ⊎ ((0 < 2 ^ p) × (2 ^ p ≡ 2 * (2 ^ p / 2)))
    by zero = inl (omega arith)
    by (suc p) = inr (pow_pos (suc p), omega arith)

-- the digits of a word
module _ (R P B d x : ℕ) (ok : Covers R P B d) (below : x < R) where
  lowest_some : 0 < P
  lowest_some = elim ok.lowest [ inl e ↦ omega arith | inr e ↦ e.0 ]

  half : P / 2 < P
  half = omega (arith, lowest_some)

  pub word_digits : (i : ℕ) → nat_abs (word_digit R P B d x i) ≤ B / 2
  word_digits = at d refl
    where
      enough : (c : ℕ) → suc c ≡ d → nat_abs (centred R x) ≤ P * (B / 2 * B ^ c)
      enough c e =
          let a : B ^ suc c ≡ B * B ^ c = pow-succ' B c in
          let b : B * B ^ c ≡ 2 * (B / 2) * B ^ c = ap (λ (n : ℕ). n * B ^ c) ok.even.1 in
          let k : R ≤ P * B ^ suc c = subst (λ (n : ℕ). R ≤ P * B ^ n) (sym e) ok.cover in
          omega (arith, centred_small R x below, rw (a, b) at k)

      at : (c : ℕ) → c ≡ d → (i : ℕ) → nat_abs (digit B c (lowered P (centred R x)) i) ≤ B / 2
      at zero e = absurd (omega (arith, ok.some))
      at (suc c) e = digits_bound B c (lowered P (centred R x)) ok.even.0 ok.even.1
          (floor_bound P (P / 2) (B / 2 * B ^ c) (centred R x) half (enough c e))

  pub word_near : nat_abs (pos P *ℤ value B d (word_digit R P B d x) -ℤ centred R x) ≤ P / 2
  word_near = rw (digits_sum B d (lowered P (centred R x)) ok.some) (lowered_near P (centred R x) ok.lowest)
