-- Values of polynomials, and their products at a root of X^N + 1 modulo Q.
use Rattle.std.proofs.Common.{◌≡◌, ℕ, zero, suc, ◌+◌, ◌*◌, ◌^◌, [], ◌∷◌, ℤ, pos, negsuc, ◌+ℤ◌, ◌*ℤ◌, neg_ℤ, sym, refl, ap, ◌∙◌, add-zero, add-suc, pow-suc, mul-zero, mul-suc, arith}
use native.Mathlib.Nat.{pow-zero}
use borrow.Author.Differences.{ints}
use lib.IntN.{*ℤ_comm, *ℤ-one, pow}
use Rattle.algebra.proofs.Ring.{expand, *ℤ-assoc, distribʳ}
use Rattle.algebra.proofs.Solve.{ring, forms}
use Rattle.algebra.proofs.Sums.{sum_same, sum_add, sum_scale, sum_swap, sum_front}
use Rattle.algebra.proofs.Cong.{same, cong_refl, cong_trans, cong_mul, cong_scale, cong_sum}
use Rattle.algebra.proofs.Poly.{mul_powers}
use Rattle.algebra.specs.Ints.{Cong, sum_z}
use Rattle.algebra.specs.Polys.{Poly, Alike, plus, scale, shift, power, mul, eval}

-- powers of integers
pub pow-add : (z : ℤ) (a b : ℕ) → pow z (a + b) ≡ pow z a *ℤ pow z b
unfolding pow lib.IntN.one
pow-add z a zero = rw add-zero (sym (*ℤ-one (pow z a)))
pow-add z a (suc b) = rw (add-suc, pow-add z a b) (*ℤ-assoc (pow z a) (pow z b) z)

pub pow_mul : (z : ℤ) (a b : ℕ) → pow z (a * b) ≡ pow (pow z a) b
unfolding pow
pow_mul z a zero = rw mul-zero
pow_mul z a (suc b) = rw (mul-suc, pow-add z (a * b) a, pow_mul z a b)

pub pow_product : (a b : ℤ) (n : ℕ) → pow (a *ℤ b) n ≡ pow a n *ℤ pow b n
unfolding pow lib.IntN.one
pow_product a b zero = refl
pow_product a b (suc n) = rw (pow_product a b n) (mix (pow a n) (pow b n) a b)
  where
    mix : (x y a b : ℤ) → x *ℤ y *ℤ (a *ℤ b) ≡ x *ℤ a *ℤ (y *ℤ b)
    mix x y a b = ring (x ∷ y ∷ a ∷ b ∷ []) (search forms depth 9) (search forms depth 9) refl

pub pow_pos : (z k : ℕ) → pos (z ^ k) ≡ pow (pos z) k
unfolding pow lib.IntN.one
pow_pos z zero = ap pos (pow-zero z)
pow_pos z (suc k) = ap pos (pow-suc z k) ∙ ap (λ (i : ℤ). i *ℤ pos z) (pow_pos z k)

pub pow_one : (h : ℕ) → pow (pos 1) h ≡ pos 1
unfolding pow lib.IntN.one
pow_one zero = refl
pow_one (suc h) = rw (pow_one h)

pub pow_odd : (h : ℕ) → pow (negsuc 0) (2 * h + 1) ≡ negsuc 0
unfolding pow lib.IntN.one
pow_odd h =
    ap (λ (n : ℕ). pow (negsuc 0) n) {x = 2 * h + 1} {y = suc (2 * h)} (omega arith)
    ∙ ap (λ (x : ℤ). x *ℤ negsuc 0) (pow_mul (negsuc 0) 2 h ∙ pow_one h)

pub pow_cong : (Q : ℕ) {a b : ℤ} (n : ℕ) → Cong Q a b → Cong Q (pow a n) (pow b n)
unfolding pow
pow_cong Q zero h = cong_refl Q _
pow_cong Q (suc n) h = cong_mul Q (pow_cong Q n h) h

-- values of sums, multiples and congruent polynomials
pub eval_plus : (N : ℕ) (p q : Poly) (z : ℤ) → eval N (plus p q) z ≡ eval N p z +ℤ eval N q z
unfolding eval
eval_plus N p q z =
    sum_same N _ _ (λ i l. distribʳ (p i) (q i) (pow z i)) ∙ sum_add N (λ i. p i *ℤ pow z i) (λ i. q i *ℤ pow z i)

pub eval_scale : (N : ℕ) (c : ℤ) (p : Poly) (z : ℤ) → eval N (scale c p) z ≡ c *ℤ eval N p z
unfolding eval
eval_scale N c p z = sum_same N _ _ (λ i l. *ℤ-assoc c (p i) (pow z i)) ∙ sum_scale N c (λ i. p i *ℤ pow z i)

pub eval_alike : (Q N : ℕ) (p q : Poly) (z : ℤ) → Alike Q N p q → Cong Q (eval N p z) (eval N q z)
unfolding eval
eval_alike Q N p q z h = cong_sum Q N _ _ (λ i l. cong_mul Q (h i l) (cong_refl Q (pow z i)))

-- ring identities
turn : (x a b : ℤ) → a *ℤ (b *ℤ x) ≡ x *ℤ (a *ℤ b)
turn x a b = ring (x ∷ a ∷ b ∷ []) (search forms depth 9) (search forms depth 9) refl

swap_in : (x a b : ℤ) → x *ℤ (a *ℤ b) ≡ a *ℤ x *ℤ b
swap_in x a b = ring (x ∷ a ∷ b ∷ []) (search forms depth 9) (search forms depth 9) refl

wrap : (Q : ℕ) (s a z p t : ℤ) → p *ℤ z ≡ negsuc 0 +ℤ pos Q *ℤ t
    → neg_ℤ a *ℤ pos 1 +ℤ z *ℤ s ≡ z *ℤ (s +ℤ a *ℤ p) +ℤ pos Q *ℤ neg_ℤ (a *ℤ t)
wrap Q s a z p t h =
    let e : a *ℤ (p *ℤ z) ≡ a *ℤ (negsuc 0 +ℤ pos Q *ℤ t) = ap (λ (x : ℤ). a *ℤ x) h in
    simp expand (omega (arith, ints, simp expand at e))

-- the value at a root of X^N + 1: X counts as z, so the value of a product is the product of the values
eval_shift : (Q N : ℕ) (z : ℤ) → Cong Q (pow z N) (negsuc 0) → (q : Poly) → Cong Q (eval N (shift N q) z) (z *ℤ eval N q z)
unfolding eval sum_z pow lib.IntN.one
eval_shift Q zero z root q = same Q _ _ (sym (lib.IntN.*ℤ-zero z))
eval_shift Q (suc m) z root q = cong_trans Q
    (same Q _ _ (sum_front m (λ i. shift (suc m) q i *ℤ pow z i)
    ∙ ap (λ (x : ℤ). neg_ℤ (q m) *ℤ pos 1 +ℤ x)
    (sum_same m _ _ (λ i l. turn z (q i) (pow z i)) ∙ sum_scale m z (λ i. q i *ℤ pow z i))))
    (record {
      times = neg_ℤ (q m *ℤ root.times);
      is = wrap Q (sum_z m (λ i. q i *ℤ pow z i)) (q m) z (pow z m) root.times root.is;
    })

module _ (Q N : ℕ) (z : ℤ) (root : Cong Q (pow z N) (negsuc 0)) where
  pub eval_power : (i : ℕ) (q : Poly) → Cong Q (eval N (power N i q) z) (pow z i *ℤ eval N q z)
  unfolding power pow lib.IntN.one
  eval_power zero q = same Q _ _ (omega (arith, ints))
  eval_power (suc i) q =
      cong_trans Q (eval_shift Q N z root (power N i q))
      (cong_trans Q (cong_scale Q z (eval_power i q)) (same Q _ _ (swap_in z (pow z i) (eval N q z))))

  pub eval_mul : (p q : Poly) → Cong Q (eval N (mul N p q) z) (eval N p z *ℤ eval N q z)
  unfolding eval
  eval_mul p q = cong_trans Q
      (same Q _ (sum_z N (λ i. p i *ℤ eval N (power N i q) z)) (
      sum_same N _ (λ k. sum_z N (λ i. p i *ℤ (power N i q k *ℤ pow z k))) (λ k l.
      ap (λ (x : ℤ). x *ℤ pow z k) (mul_powers N p q k l)
      ∙ *ℤ_comm (sum_z N (λ i. p i *ℤ power N i q k)) (pow z k)
      ∙ sym (sum_scale N (pow z k) (λ i. p i *ℤ power N i q k))
      ∙ sum_same N _ _ (λ i b. sym (turn (pow z k) (p i) (power N i q k))))
      ∙ sum_swap N N (λ k i. p i *ℤ (power N i q k *ℤ pow z k))
      ∙ sum_same N _ _ (λ i b. sum_scale N (p i) (λ k. power N i q k *ℤ pow z k))))
      (cong_trans Q (cong_sum Q N _ _ (λ i b. cong_scale Q (p i) (eval_power i q)))
      (same Q _ _ (sum_same N _ _ (λ i b. turn (eval N q z) (p i) (pow z i))
      ∙ sum_scale N (eval N q z) (λ i. p i *ℤ pow z i)
      ∙ *ℤ_comm (eval N q z) (eval N p z))))
