-- Words below Q stand for integers modulo Q.
use Rattle.std.proofs.Common.{◌≡◌, ℕ, zero, suc, ◌+◌, ◌*◌, ◌/◌, ◌%◌, ◌<◌, ℤ, pos, negsuc, ◌+ℤ◌, ◌-ℤ◌, ◌*ℤ◌, nat_abs, ap, ◌∙◌, mod-lt, mul-one, mul-add, arith}
use native.Mathlib.Nat.{div-add-mod}
use borrow.Author.Differences.{ints}
use lib.IntN.{*ℤ-zero}
use Rattle.algebra.proofs.Cong.{same, cong_sym, cong_trans}
use Rattle.algebra.specs.Ints.{Cong}
use Rattle.algebra.specs.Words.{word_of}

-- a number and its remainder
pub mod_cong : (Q n : ℕ) → Cong Q (pos (n % Q)) (pos n)
mod_cong Q n = cong_sym Q (record { times = pos (n / Q); is = ap pos (omega arith) })

pub same_rest : (Q a b : ℕ) → a % Q ≡ b % Q → Cong Q (pos a) (pos b)
same_rest Q a b e = cong_trans Q (cong_sym Q (mod_cong Q a)) (cong_trans Q (same Q _ _ (ap pos e)) (mod_cong Q b))

-- congruent integers that lie near each other are equal, and so are congruent words
pub near_unique : (Q : ℕ) (a b : ℤ) → nat_abs (a -ℤ b) < Q → Cong Q a b → a ≡ b
near_unique Q a b h c = by c.times c.is
  where
    by : (t : ℤ) → a ≡ b +ℤ pos Q *ℤ t → a ≡ b
    by (pos zero) e = e ∙ ap (λ (x : ℤ). b +ℤ x) (*ℤ-zero (pos Q)) ∙ omega (arith, ints)
    by (pos (suc t)) e = absurd (omega (arith, ints))
    by (negsuc t) e = absurd (omega (arith, ints))

pub word_unique : (Q a b : ℕ) → a < Q → b < Q → Cong Q (pos a) (pos b) → a ≡ b
word_unique Q a b h k c = omega (arith, ints, near_unique Q (pos a) (pos b) (omega (arith, ints)) c)

-- the word of an integer
pub word_cong : (Q : ℕ) (z : ℤ) → 0 < Q → Cong Q (pos (word_of Q z)) z
word_cong Q (pos a) h = mod_cong Q a
word_cong Q (negsuc a) h =
    let d : Q * (a / Q) + a % Q ≡ a = div-add-mod a Q in
    let m : a % Q < Q = mod-lt a h in
    let p : Q * (1 + a / Q) ≡ Q * 1 + Q * (a / Q) = mul-add Q 1 (a / Q) in
    let o : Q * 1 ≡ Q = mul-one Q in
    record { times = pos (1 + a / Q); is = omega (arith, ints) }

pub word_below : (Q : ℕ) (z : ℤ) → 0 < Q → word_of Q z < Q
word_below Q (pos a) h = mod-lt a h
word_below Q (negsuc a) h = omega (arith, mod-lt a h)

pub word_same : (Q : ℕ) (a b : ℤ) → 0 < Q → Cong Q a b → word_of Q a ≡ word_of Q b
word_same Q a b h c = word_unique Q (word_of Q a) (word_of Q b) (word_below Q a h) (word_below Q b h)
    (cong_trans Q (word_cong Q a h) (cong_trans Q c (cong_sym Q (word_cong Q b h))))

pub word_is : (Q a : ℕ) (z : ℤ) → a < Q → Cong Q (pos a) z → a ≡ word_of Q z
word_is Q a z l c = word_unique Q a (word_of Q z) l (word_below Q z (omega arith))
    (cong_trans Q c (cong_sym Q (word_cong Q z (omega arith))))
