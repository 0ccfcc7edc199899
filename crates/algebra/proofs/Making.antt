-- Keys made from the ring secret and its inverse fit.
use Rattle.std.proofs.Common.{◌≡◌, ℕ, ℤ, ◌+ℤ◌, ◌*ℤ◌, ap, ◌∙◌, arith}
use borrow.Author.Differences.{ints}
use Rattle.algebra.proofs.Cong.{same, cong_refl, cong_trans, cong_add}
use Rattle.algebra.proofs.Poly.{mul_comm, mul_left, mul-one, mul_plusʳ, mul_scaleʳ}
use Rattle.algebra.proofs.Norms.{mul_alike}
use Rattle.algebra.specs.Polys.{Poly, Alike, Within, one, plus, scale, mul}
use Rattle.algebra.specs.Near.{Nearby}

module _ (Q N E : ℕ) (f f' g : Poly) (inverse : Alike Q N (mul N f f') one) (small : Within N E g) where
  -- f times x times the inverse is x
  undone : (x : Poly) → Alike Q N (mul N f (mul N x f')) x
  undone x k l =
      cong_trans Q (same Q _ _ (mul_left N f x f' k l))
      (cong_trans Q (mul_alike Q N x x (mul N f f') one (λ k l. cong_refl Q (x k)) inverse k l) (same Q _ _ (mul-one N x k l)))

  -- (g + c t) f' is a part of a key of t
  pub made_start_lem : (c : ℤ) (t : Poly) → Nearby Q N E (mul N f (mul N (plus g (scale c t)) f')) (scale c t)
  made_start_lem c t k l = record {
    noise = g k;
    is = cong_trans Q (undone (plus g (scale c t)) k l) (same Q _ _ (turn (g k) (c *ℤ t k)));
    small = small k l;
  }
    where
      turn : (a b : ℤ) → a +ℤ b ≡ b +ℤ a
      turn a b = omega (arith, ints)

  -- g f' + c m is a part of a selector of m
  pub made_selector : (c : ℤ) (m : Poly) → Nearby Q N E (mul N f (plus (mul N g f') (scale c m))) (scale c (mul N m f))
  made_selector c m k l = record {
    noise = g k;
    is = cong_trans Q (same Q _ _ (mul_plusʳ N f (mul N g f') (scale c m) k l))
        (cong_trans Q (cong_add Q (undone g k l)
        (same Q _ _ (mul_scaleʳ N c f m k l ∙ ap (λ (x : ℤ). c *ℤ x) (mul_comm N f m k l))))
        (same Q _ _ (turn (g k) (c *ℤ mul N m f k))));
    small = small k l;
  }
    where
      turn : (a b : ℤ) → a +ℤ b ≡ b +ℤ a
      turn a b = omega (arith, ints)
