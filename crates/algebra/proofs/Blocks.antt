-- The halving of a block: a polynomial modulo X^2h - c^2 is one modulo X^h - c and one modulo X^h + c.
use Rattle.std.proofs.Common.{◌≡◌, ℕ, ◌+◌, [], ◌∷◌, ℤ, ◌+ℤ◌, ◌*ℤ◌, neg_ℤ, sym, refl, ap, ◌∙◌, arith}
use borrow.Author.Differences.{ints}
use lib.IntN.{pow}
use Rattle.algebra.proofs.Solve.{ring, forms}
use Rattle.algebra.proofs.Sums.{sum_same, sum_scale, sum_split}
use Rattle.algebra.proofs.Cong.{same, cong_refl, cong_sym, cong_trans, cong_add, cong_mul}
use Rattle.algebra.proofs.Eval.{pow-add, eval_plus, eval_scale}
use Rattle.algebra.specs.Ints.{Cong, sum_z}
use Rattle.algebra.specs.Polys.{Poly, plus, scale, eval}
use Rattle.algebra.specs.Transform.{Block}

-- at a root of X^h - c, a block of 2h coefficients has the value of its low half plus c times its high half
pub butterfly : (Q h : ℕ) (a : Poly) (c z : ℤ) → Cong Q (pow z h) c
    → Cong Q (eval (h + h) a z) (eval h (plus a (scale c (λ i. a (h + i)))) z)
unfolding eval
butterfly Q h a c z r =
    let high : Poly = λ i. a (h + i) in
    cong_trans Q
    (same Q _ (eval h a z +ℤ pow z h *ℤ eval h (λ i. a (h + i)) z) (
    sum_split h h (λ i. a i *ℤ pow z i)
    ∙ ap (λ (x : ℤ). eval h a z +ℤ x) (sum_same h _ _ (λ i l. past i) ∙ sum_scale h (pow z h) (λ i. a (h + i) *ℤ pow z i))))
    (cong_trans Q (cong_add Q (cong_refl Q (eval h a z)) (cong_mul Q r (cong_refl Q (eval h (λ i. a (h + i)) z))))
    (same Q _ _ (sym (eval_plus h a (scale c high) z ∙ ap (λ (x : ℤ). eval h a z +ℤ x) (eval_scale h c high z)))))
  where
    turn : (a p q : ℤ) → a *ℤ (p *ℤ q) ≡ p *ℤ (a *ℤ q)
    turn a p q = ring (a ∷ p ∷ q ∷ []) (search forms depth 9) (search forms depth 9) refl

    past : (i : ℕ) → a (h + i) *ℤ pow z (h + i) ≡ pow z h *ℤ (a (h + i) *ℤ pow z i)
    past i = ap (λ (x : ℤ). a (h + i) *ℤ x) (pow-add z h i) ∙ turn (a (h + i)) (pow z h) (pow z i)

-- both halves of a block, and a block of one coefficient
pub block_low : (Q N h : ℕ) (a b : Poly) (c d : ℤ) → Cong Q (c *ℤ c) d → Block Q N a (h + h) b d
    → Block Q N a h (plus b (scale c (λ i. b (h + i)))) c
block_low Q N h a b c d e block z r = cong_trans Q (cong_sym Q (butterfly Q h b c z r))
    (block z (cong_trans Q (same Q _ _ (pow-add z h h)) (cong_trans Q (cong_mul Q r r) e)))

pub block_high : (Q N h : ℕ) (a b : Poly) (c d : ℤ) → Cong Q (c *ℤ c) d → Block Q N a (h + h) b d
    → Block Q N a h (plus b (scale (neg_ℤ c) (λ i. b (h + i)))) (neg_ℤ c)
block_high Q N h a b c d e block = block_low Q N h a b (neg_ℤ c) d (cong_trans Q (same Q _ _ (squares c)) e) block
  where
    squares : (c : ℤ) → neg_ℤ c *ℤ neg_ℤ c ≡ c *ℤ c
    squares c = ring (c ∷ []) (search forms depth 9) (search forms depth 9) refl

pub block_last : (Q N : ℕ) (a b : Poly) (c : ℤ) → Block Q N a 1 b c → Cong Q (b 0) (eval N a c)
unfolding eval sum_z pow lib.IntN.one
block_last Q N a b c block = cong_trans Q (same Q _ _ (sym first)) (block c (same Q _ _ itself))
  where
    itself : pow c 1 ≡ c
    itself = omega (arith, ints)

    first : eval 1 b c ≡ b 0
    first = omega (arith, ints)
