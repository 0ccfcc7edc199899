-- Congruence of integers modulo Q.
use Rattle.std.proofs.Common.{◌≡◌, ℕ, zero, suc, ◌<◌, ℤ, pos, ◌+ℤ◌, ◌*ℤ◌, neg_ℤ, refl, arith}
use borrow.Author.Differences.{ints}
use lib.IntN.{*ℤ-zero, zero-*ℤ}
use Rattle.algebra.proofs.Ring.{expand}
use Rattle.algebra.specs.Ints.{Cong, sum_z}

module _ (Q : ℕ) where
  -- an equivalence
  pub same : (a b : ℤ) → a ≡ b → Cong Q a b
  same a b e = record { times = pos 0; is = rw (e, *ℤ-zero) (omega (arith, ints)) }

  pub cong_refl : (a : ℤ) → Cong Q a a
  cong_refl a = same a a refl

  pub cong_sym : {a b : ℤ} → Cong Q a b → Cong Q b a
  cong_sym c = record { times = neg_ℤ c.times; is = simp expand (omega (arith, ints, c.is)) }

  pub cong_trans : {a b c : ℤ} → Cong Q a b → Cong Q b c → Cong Q a c
  cong_trans u v = record { times = u.times +ℤ v.times; is = simp expand (omega (arith, ints, u.is, v.is)) }

  -- kept by signs, sums and products
  pub cong_neg : {a b : ℤ} → Cong Q a b → Cong Q (neg_ℤ a) (neg_ℤ b)
  cong_neg c = record { times = neg_ℤ c.times; is = simp expand (omega (arith, ints, c.is)) }

  pub cong_add : {a b c d : ℤ} → Cong Q a b → Cong Q c d → Cong Q (a +ℤ c) (b +ℤ d)
  cong_add u v = record { times = u.times +ℤ v.times; is = simp expand (omega (arith, ints, u.is, v.is)) }

  pub cong_mul : {a b c d : ℤ} → Cong Q a b → Cong Q c d → Cong Q (a *ℤ c) (b *ℤ d)
  cong_mul {a} {b} {c} {d} u v = record {
    times = u.times *ℤ d +ℤ b *ℤ v.times +ℤ pos Q *ℤ (u.times *ℤ v.times);
    is = rw (u.is, v.is) (simp expand (omega (arith, ints)));
  }

  pub cong_scale : (c : ℤ) {a b : ℤ} → Cong Q a b → Cong Q (c *ℤ a) (c *ℤ b)
  cong_scale c h = cong_mul (cong_refl c) h

  pub cong_sum : (n : ℕ) (f g : ℕ → ℤ) → ((i : ℕ) → i < n → Cong Q (f i) (g i)) → Cong Q (sum_z n f) (sum_z n g)
  unfolding sum_z
  cong_sum zero f g h = cong_refl (pos 0)
  cong_sum (suc n) f g h = cong_add (cong_sum n f g (λ i l. h i (omega arith))) (h n (omega arith))

  -- a product with 0
  pub zeroˡ : {a : ℤ} (b : ℤ) → Cong Q a (pos 0) → Cong Q (a *ℤ b) (pos 0)
  zeroˡ b h = cong_trans (cong_mul h (cong_refl b)) (same _ _ (zero-*ℤ b))

  pub zeroʳ : (a : ℤ) {b : ℤ} → Cong Q b (pos 0) → Cong Q (a *ℤ b) (pos 0)
  zeroʳ a h = cong_trans (cong_scale a h) (same _ _ (*ℤ-zero a))

  -- for `grw`, which rewrites under sums, products and signs
  pub ruleset under = (cong_trans, cong_refl, cong_neg, cong_add, cong_mul)
