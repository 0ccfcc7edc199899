-- Agreement modulo Q up to a noise.
use Rattle.std.proofs.Common.{◌≡◌, ℕ, ◌+◌, ◌*◌, ◌<◌, ◌≤◌, ℤ, pos, ◌+ℤ◌, ◌-ℤ◌, neg_ℤ, nat_abs, arith}
use native.Mathlib.Decide.{dec_lt}
use borrow.Author.Differences.{ints}
use lib.IntN.{neg_ℤ-+ℤ}
use Rattle.algebra.proofs.Sums.{abs_add}
use Rattle.algebra.proofs.Cong.{same, cong_trans, cong_neg, cong_add, cong_refl}
use Rattle.algebra.proofs.Powers.{power_keeps}
use Rattle.algebra.specs.Ints.{Cong}
use Rattle.algebra.specs.Polys.{Poly, Alike, Within, plus, power}
use Rattle.algebra.specs.Near.{Near, Nearby}
use Rattle.algebra.specs.Sweeps.{turned}

module _ (Q : ℕ) where
  -- congruence is agreement without noise
  pub near_cong : (V : ℕ) {a b : ℤ} → Cong Q a b → Near Q V a b
  near_cong V {a} {b} c = record {
    noise = pos 0;
    is = cong_trans Q c (same Q _ _ (none b));
    small = omega arith;
  }
    where
      none : (b : ℤ) → b ≡ b +ℤ pos 0
      none b = omega (arith, ints)

  pub near_refl : (V : ℕ) (a : ℤ) → Near Q V a a
  near_refl V a = near_cong V (cong_refl Q a)

  pub cong_near : {V : ℕ} {a b c : ℤ} → Cong Q a b → Near Q V b c → Near Q V a c
  cong_near e h = record { noise = h.noise; is = cong_trans Q e h.is; small = h.small }

  pub near_to : {V : ℕ} {a b c : ℤ} → Near Q V a b → Cong Q b c → Near Q V a c
  near_to h e = record { noise = h.noise; is = cong_trans Q h.is (cong_add Q e (cong_refl Q h.noise)); small = h.small }

  -- noises may be overstated, and add up
  pub near_more : {V W : ℕ} {a b : ℤ} → V ≤ W → Near Q V a b → Near Q W a b
  near_more l h = record { noise = h.noise; is = h.is; small = omega (arith, h.small) }

  pub near_trans : {V W : ℕ} {a b c : ℤ} → Near Q V a b → Near Q W b c → Near Q (V + W) a c
  near_trans {V} {W} {a} {b} {c} h g = record {
    noise = g.noise +ℤ h.noise;
    is = cong_trans Q h.is (cong_trans Q (cong_add Q g.is (cong_refl Q h.noise)) (same Q _ _ (group c g.noise h.noise)));
    small = omega (arith, abs_add g.noise h.noise, h.small, g.small);
  }
    where
      group : (c x y : ℤ) → c +ℤ x +ℤ y ≡ c +ℤ (x +ℤ y)
      group c x y = omega (arith, ints)

  pub near_neg : {V : ℕ} {a b : ℤ} → Near Q V a b → Near Q V (neg_ℤ a) (neg_ℤ b)
  near_neg {V} {a} {b} h = record {
    noise = neg_ℤ h.noise;
    is = cong_trans Q (cong_neg Q h.is) (same Q _ _ (neg_ℤ-+ℤ b h.noise));
    small = sign h.noise h.small;
  }
    where
      sign : (x : ℤ) → nat_abs x ≤ V → nat_abs (neg_ℤ x) ≤ V
      sign x l = omega (arith, ints)

  pub near_plus : {V W : ℕ} {a b c d : ℤ} → Near Q V a b → Near Q W c d → Near Q (V + W) (a +ℤ c) (b +ℤ d)
  near_plus {V} {W} {a} {b} {c} {d} h g = record {
    noise = h.noise +ℤ g.noise;
    is = cong_trans Q (cong_add Q h.is g.is) (same Q _ _ (group b d h.noise g.noise));
    small = omega (arith, abs_add h.noise g.noise, h.small, g.small);
  }
    where
      group : (b d x y : ℤ) → b +ℤ x +ℤ (d +ℤ y) ≡ b +ℤ d +ℤ (x +ℤ y)
      group b d x y = omega (arith, ints)

  pub near_minus : {V W : ℕ} {a b c d : ℤ} → Near Q V a b → Near Q W c d → Near Q (V + W) (a -ℤ c) (b -ℤ d)
  near_minus h g = near_plus h (near_neg g)

-- powers of X keep the noise, and X^j - 1 at most doubles it
pub nearby_power : (Q N V i : ℕ) (p q : Poly) → Nearby Q N V p q → Nearby Q N V (power N i p) (power N i q)
nearby_power Q N V i p q h = power_keeps (Near Q V) (λ a b e. near_neg Q e) N i p q h

pub nearby_turned : (Q N V j : ℕ) (p q : Poly) → Nearby Q N V p q → Nearby Q N (2 * V) (turned N j p) (turned N j q)
nearby_turned Q N V j p q h k l = near_more Q (omega arith) (near_minus Q (nearby_power Q N V j p q h k l) (h k l))

-- what is chosen for each place below n, as a function of all places
pub choose : {A : Type 0} (a : A) (n : ℕ) (P : ℕ → A → Type 0) → ((i : ℕ) → i < n → (x : A) × P i x)
    → (f : ℕ → A) × ((i : ℕ) → i < n → P i (f i))
choose {A} a n P h = (
  λ i. elim (dec_lt i n) [ yes l ↦ (h i l).0 | no b ↦ a ],
  λ i l.
      elim (dec_lt i n) as (λ d. P i (elim d [ yes l ↦ (h i l).0 | no b ↦ a ])) [ yes m ↦ (h i m).1 | no b ↦ absurd (b l) ],
)

-- the noise of a polynomial, as a polynomial
pub noise_of : (Q N V : ℕ) (p q : Poly) → Nearby Q N V p q → (e : Poly) × (Alike Q N p (plus q e) × Within N V e)
noise_of Q N V p q h =
    let c : (e : Poly) × ((k : ℕ) → k < N → Cong Q (p k) (q k +ℤ e k) × (nat_abs (e k) ≤ V)) =
    choose (pos 0) N (λ k x. Cong Q (p k) (q k +ℤ x) × (nat_abs x ≤ V)) (λ k l. ((h k l).noise, ((h k l).is, (h k l).small))) in
    (c.0, (λ k l. (c.1 k l).0, λ k l. (c.1 k l).1))
