-- Values at the odd powers of a root of X^N + 1 modulo Q, where N is a power of two: there and back, for composite Q too.
use Rattle.std.proofs.Common.{◌≡◌, ℕ, zero, suc, ◌+◌, ◌-◌, ◌*◌, ◌/◌, ◌%◌, ◌^◌, ◌<◌, [], ◌∷◌, ℤ, pos, negsuc, ◌+ℤ◌, ◌*ℤ◌, neg_ℤ, sym, refl, ap, ◌∙◌, subst, ap₂, mul_comm, arith}
use native.Mathlib.Decide.{ℕ_discrete, dec_lt}
use borrow.Author.Differences.{ints}
use lib.IntN.{*ℤ_comm, pow}
use Rattle.algebra.proofs.Ring.{*ℤ-assoc}
use Rattle.algebra.proofs.Solve.{ring, forms}
use Rattle.algebra.proofs.Sums.{sum_same, sum_zero, sum_scale, sum_swap, sum_split}
use Rattle.algebra.proofs.Cong.{same, cong_refl, cong_sym, cong_trans, cong_neg, cong_add, cong_mul, cong_scale, cong_sum, zeroˡ, zeroʳ}
use Rattle.algebra.proofs.Eval.{pow-add, pow_mul, pow_product, pow_one, pow_odd, pow_cong, eval_scale}
use Rattle.algebra.specs.Ints.{Cong, sum_z}
use Rattle.algebra.specs.Polys.{Poly, Alike, eval}
use Rattle.algebra.specs.Transform.{interpolated}

-- 1 + x + .. + x^(n - 1), which for 2n terms is 1 + x^n times that for n
unfoldable geometric : ℕ → ℤ → ℤ
geometric n x = sum_z n (λ j. pow x j)

geometric_double : (n : ℕ) (x : ℤ) → geometric (n + n) x ≡ (pos 1 +ℤ pow x n) *ℤ geometric n x
unfolding geometric
geometric_double n x =
    sum_split n n (λ j. pow x j)
    ∙ ap (λ (y : ℤ). geometric n x +ℤ y) (sum_same n _ _ (λ i l. pow-add x n i) ∙ sum_scale n (pow x n) (λ j. pow x j))
    ∙ collect (geometric n x) (pow x n)
  where
    collect : (g y : ℤ) → g +ℤ y *ℤ g ≡ (pos 1 +ℤ y) *ℤ g
    collect g y = ring (g ∷ y ∷ []) (search forms depth 9) (search forms depth 9) refl

-- x + x^3 + .. + x^(2n - 1)
unfoldable odds : ℕ → ℤ → ℤ
odds n y = sum_z n (λ j. pow y (2 * j + 1))

sum_ones : (n : ℕ) → sum_z n (λ j. pos 1) ≡ pos n
unfolding sum_z
sum_ones zero = refl
sum_ones (suc n) = rw (sum_ones n) (omega (arith, ints))

-- a sum of which all terms but one are 0 modulo Q
cong_one : (Q n k : ℕ) (f : ℕ → ℤ) → k < n → ((i : ℕ) → i < n → ¬ (i ≡ k) → Cong Q (f i) (pos 0)) → Cong Q (sum_z n f) (f k)
unfolding sum_z
cong_one Q zero k f l h = absurd (omega arith)
cong_one Q (suc n) k f l h = elim (ℕ_discrete n k) [
  | yes e ↦ last e
  | no d ↦ cong_trans Q (cong_add Q (cong_one Q n k f (omega arith) (λ i b. h i (omega arith))) (h n (omega arith) d))
      (same Q _ _ (omega (arith, ints)))
]
  where
    last : n ≡ k → Cong Q (sum_z n f +ℤ f n) (f k)
    last e = cong_trans Q
        (cong_add Q
        (cong_trans Q (cong_sum Q n f (λ i. pos 0) (λ i b. h i (omega arith) (λ d. omega arith)))
        (same Q _ _ (sum_zero n (λ i. pos 0) (λ i b. refl))))
        (same Q _ _ (ap f e)))
        (same Q _ _ (omega (arith, ints)))

-- one factor of the product of the 1 + x^(2^t) is 0
vanish : (Q m e : ℕ) (z : ℤ) → 0 < e → e < 2 ^ m → Cong Q (pow z (2 ^ m)) (negsuc 0)
    → Cong Q (geometric (2 ^ m) (pow z (2 * e))) (pos 0)
vanish Q zero e z a b root = absurd (omega arith)
vanish Q (suc m) e z a b root =
    cong_trans Q
    (same Q _ _ (ap (λ (n : ℕ). geometric n (pow z (2 * e))) {y = 2 ^ m + 2 ^ m} (omega arith)
    ∙ geometric_double (2 ^ m) (pow z (2 * e))))
    (elim (ℕ_discrete (e % 2) 0) [
      | yes p ↦ even p (vanish Q m (e / 2) (pow z 2) (omega arith) (omega arith)
          (subst (λ (x : ℤ). Cong Q x (negsuc 0)) halved root))
      | no p ↦ odd p
    ])
  where
    halved : pow z (2 ^ suc m) ≡ pow (pow z 2) (2 ^ m)
    halved = ap (pow z) {y = 2 * 2 ^ m} (omega arith) ∙ pow_mul z 2 (2 ^ m)

    even : e % 2 ≡ 0 → Cong Q (geometric (2 ^ m) (pow (pow z 2) (2 * (e / 2)))) (pos 0)
        → Cong Q ((pos 1 +ℤ pow (pow z (2 * e)) (2 ^ m)) *ℤ geometric (2 ^ m) (pow z (2 * e))) (pos 0)
    even p ih = zeroʳ Q _ (subst (λ (x : ℤ). Cong Q (geometric (2 ^ m) x) (pos 0))
        (sym (pow_mul z 2 (2 * (e / 2))) ∙ ap (pow z) {y = 2 * e} (omega arith)) ih)

    powers : pow (pow z (2 * e)) (2 ^ m) ≡ pow (pow z (2 ^ suc m)) e
    powers = sym (pow_mul z (2 * e) (2 ^ m))
        ∙ ap (pow z) {y = 2 ^ suc m * e} (let h : 2 ^ suc m ≡ 2 * 2 ^ m = omega arith in rw h (omega arith))
        ∙ pow_mul z (2 ^ suc m) e

    odd : ¬ (e % 2 ≡ 0) → Cong Q ((pos 1 +ℤ pow (pow z (2 * e)) (2 ^ m)) *ℤ geometric (2 ^ m) (pow z (2 * e))) (pos 0)
    odd p = zeroˡ Q _ (cong_add Q (cong_refl Q (pos 1))
        (cong_trans Q (same Q _ _ powers) (cong_trans Q (pow_cong Q e root)
        (same Q _ _ (ap (pow (negsuc 0)) {y = 2 * (e / 2) + 1} (omega arith) ∙ pow_odd (e / 2))))))

module _ (Q m : ℕ) where
  odds_vanish : (e : ℕ) (z : ℤ) → 0 < e → e < 2 ^ m → Cong Q (pow z (2 ^ m)) (negsuc 0) → Cong Q (odds (2 ^ m) (pow z e)) (pos 0)
  unfolding odds geometric
  odds_vanish e z a b root = cong_trans Q
      (same Q _ (pow z e *ℤ geometric (2 ^ m) (pow z (2 * e)))
      (sum_same (2 ^ m) _ _ (λ j l. each j) ∙ sum_scale (2 ^ m) (pow z e) (λ j. pow (pow z (2 * e)) j)))
      (zeroʳ Q _ (vanish Q m e z a b root))
    where
      each : (j : ℕ) → pow (pow z e) (2 * j + 1) ≡ pow z e *ℤ pow (pow z (2 * e)) j
      each j = sym (pow_mul z e (2 * j + 1)) ∙ ap (pow z) {y = e + 2 * e * j} (omega arith)
          ∙ pow-add z e (2 * e * j) ∙ ap (λ (x : ℤ). pow z e *ℤ x) (pow_mul z (2 * e) j)

  odds_cong : {y y' : ℤ} → Cong Q y y' → Cong Q (odds (2 ^ m) y) (odds (2 ^ m) y')
  unfolding odds
  odds_cong h = cong_sum Q (2 ^ m) _ _ (λ j l. pow_cong Q (2 * j + 1) h)

  geometric_cong : {y y' : ℤ} → Cong Q y y' → Cong Q (geometric (2 ^ m) y) (geometric (2 ^ m) y')
  unfolding geometric
  geometric_cong h = cong_sum Q (2 ^ m) _ _ (λ j l. pow_cong Q j h)

  -- z^(e + k) w^k is z^e, where z w is 1
  cancel : (z w : ℤ) (e k : ℕ) → Cong Q (z *ℤ w) (pos 1) → Cong Q (pow z (e + k) *ℤ pow w k) (pow z e)
  cancel z w e k inv =
      cong_trans Q (same Q _ (pow z e *ℤ pow (z *ℤ w) k) (rw (pow-add, pow_product) (*ℤ-assoc (pow z e) (pow z k) (pow w k))))
      (cong_trans Q (cong_scale Q (pow z e) (cong_trans Q (pow_cong Q k inv) (same Q _ _ (pow_one k)))) (same Q _ _ (unit (pow z e))))
    where
      unit : (x : ℤ) → x *ℤ pos 1 ≡ x
      unit x = omega (arith, ints)

  module _ (z w : ℤ) (root : Cong Q (pow z (2 ^ m)) (negsuc 0)) (inv : Cong Q (z *ℤ w) (pos 1)) where
    inv' : Cong Q (w *ℤ z) (pos 1)
    inv' = cong_trans Q (same Q _ _ (*ℤ_comm w z)) inv

    root' : Cong Q (pow w (2 ^ m)) (negsuc 0)
    root' = cong_trans Q (same Q _ (neg_ℤ (negsuc 0 *ℤ pow w (2 ^ m))) (omega (arith, ints)))
        (cong_trans Q (cong_neg Q (cong_mul Q (cong_sym Q root) (cong_refl Q (pow w (2 ^ m)))))
        (cong_trans Q (same Q _ _ (ap neg_ℤ (sym (pow_product z w (2 ^ m)))))
        (cong_neg Q (cong_trans Q (pow_cong Q (2 ^ m) inv) (same Q _ _ (pow_one (2 ^ m)))))))

    -- the sum over the odd powers of z^i w^k is N where i is k, and else 0
    same_place : (k : ℕ) → Cong Q (odds (2 ^ m) (pow z k *ℤ pow w k)) (pos (2 ^ m))
    unfolding odds
    same_place k = cong_trans Q
        (odds_cong (cong_trans Q (same Q _ _ (sym (pow_product z w k))) (cong_trans Q (pow_cong Q k inv) (same Q _ _ (pow_one k)))))
        (same Q _ _ (sum_same (2 ^ m) _ _ (λ j l. pow_one (2 * j + 1)) ∙ sum_ones (2 ^ m)))

    other_place : (i k : ℕ) → i < 2 ^ m → k < 2 ^ m → ¬ (i ≡ k) → Cong Q (odds (2 ^ m) (pow z i *ℤ pow w k)) (pos 0)
    other_place i k a b d = elim (dec_lt k i) [ yes l ↦ above l | no n ↦ below (omega (arith, n, d)) ]
      where
        above : k < i → Cong Q (odds (2 ^ m) (pow z i *ℤ pow w k)) (pos 0)
        above l = cong_trans Q
            (odds_cong (subst (λ (x : ℕ). Cong Q (pow z x *ℤ pow w k) (pow z (i - k))) (omega arith) (cancel z w (i - k) k inv)))
            (odds_vanish (i - k) z (omega arith) (omega arith) root)

        below : i < k → Cong Q (odds (2 ^ m) (pow z i *ℤ pow w k)) (pos 0)
        below l = cong_trans Q
            (odds_cong (cong_trans Q (same Q _ _ (*ℤ_comm (pow z i) (pow w k)))
            (subst (λ (x : ℕ). Cong Q (pow w x *ℤ pow z i) (pow w (k - i))) (omega arith) (cancel w z (k - i) i inv'))))
            (odds_vanish (k - i) w (omega arith) (omega arith) root')

    powers : (x : ℤ) (r i : ℕ) → pow (pow x r) i ≡ pow (pow x i) r
    powers x r i = sym (pow_mul x r i) ∙ ap (pow x) (mul_comm r i) ∙ pow_mul x i r

    -- from the values at the odd powers of z, N times the coefficients
    pub coefficients : (a : Poly) (k : ℕ) → k < 2 ^ m
        → Cong Q (sum_z (2 ^ m) (λ j. eval (2 ^ m) a (pow z (2 * j + 1)) *ℤ pow w ((2 * j + 1) * k))) (pos (2 ^ m) *ℤ a k)
    unfolding eval odds
    coefficients a k l = cong_trans Q
        (same Q _ (sum_z (2 ^ m) (λ i. a i *ℤ odds (2 ^ m) (pow z i *ℤ pow w k))) (
        sum_same (2 ^ m) _ (λ j. sum_z (2 ^ m) (λ i. a i *ℤ pow (pow z i *ℤ pow w k) (2 * j + 1))) (λ j b.
        *ℤ_comm (eval (2 ^ m) a (pow z (2 * j + 1))) (pow w ((2 * j + 1) * k))
        ∙ sym (sum_scale (2 ^ m) (pow w ((2 * j + 1) * k)) (λ i. a i *ℤ pow (pow z (2 * j + 1)) i))
        ∙ sum_same (2 ^ m) _ _ (λ i c. each i j))
        ∙ sum_swap (2 ^ m) (2 ^ m) (λ j i. a i *ℤ pow (pow z i *ℤ pow w k) (2 * j + 1))
        ∙ sum_same (2 ^ m) _ _ (λ i b. sum_scale (2 ^ m) (a i) (λ j. pow (pow z i *ℤ pow w k) (2 * j + 1)))))
        (cong_trans Q
        (cong_one Q (2 ^ m) k (λ i. a i *ℤ odds (2 ^ m) (pow z i *ℤ pow w k)) l (λ i b d. zeroʳ Q (a i) (other_place i k b l d)))
        (cong_trans Q (cong_scale Q (a k) (same_place k)) (same Q _ _ (*ℤ_comm (a k) (pos (2 ^ m))))))
      where
        turn : (x a b : ℤ) → x *ℤ (a *ℤ b) ≡ a *ℤ (b *ℤ x)
        turn x a b = ring (x ∷ a ∷ b ∷ []) (search forms depth 9) (search forms depth 9) refl

        each : (i j : ℕ) → pow w ((2 * j + 1) * k) *ℤ (a i *ℤ pow (pow z (2 * j + 1)) i) ≡ a i *ℤ pow (pow z i *ℤ pow w k) (2 * j + 1)
        each i j = turn (pow w ((2 * j + 1) * k)) (a i) (pow (pow z (2 * j + 1)) i) ∙ ap (λ (x : ℤ). a i *ℤ x)
            (ap₂ ◌*ℤ◌ (powers z (2 * j + 1) i) (pow_mul w (2 * j + 1) k ∙ powers w (2 * j + 1) k)
            ∙ sym (pow_product (pow z i) (pow w k) (2 * j + 1)))

    -- the sum over all powers of z^(2j + 1) w^(2i + 1) is N where i is j, and else 0
    same-value : (j : ℕ) → Cong Q (geometric (2 ^ m) (pow z j *ℤ pow w j)) (pos (2 ^ m))
    unfolding geometric
    same-value j = cong_trans Q
        (geometric_cong (cong_trans Q (same Q _ _ (sym (pow_product z w j))) (cong_trans Q (pow_cong Q j inv) (same Q _ _ (pow_one j)))))
        (same Q _ _ (sum_same (2 ^ m) _ _ (λ i l. pow_one i) ∙ sum_ones (2 ^ m)))

    other-value : (i j : ℕ) → i < 2 ^ m → j < 2 ^ m → ¬ (i ≡ j)
        → Cong Q (geometric (2 ^ m) (pow z (2 * j + 1) *ℤ pow w (2 * i + 1))) (pos 0)
    other-value i j a b d = elim (dec_lt i j) [ yes l ↦ below l | no n ↦ above (omega (arith, n, d)) ]
      where
        below : i < j → Cong Q (geometric (2 ^ m) (pow z (2 * j + 1) *ℤ pow w (2 * i + 1))) (pos 0)
        below l = cong_trans Q
            (geometric_cong (subst (λ (x : ℕ). Cong Q (pow z x *ℤ pow w (2 * i + 1)) (pow z (2 * (j - i)))) (omega arith)
            (cancel z w (2 * (j - i)) (2 * i + 1) inv)))
            (vanish Q m (j - i) z (omega arith) (omega arith) root)

        above : j < i → Cong Q (geometric (2 ^ m) (pow z (2 * j + 1) *ℤ pow w (2 * i + 1))) (pos 0)
        above l = cong_trans Q
            (geometric_cong (cong_trans Q (same Q _ _ (*ℤ_comm (pow z (2 * j + 1)) (pow w (2 * i + 1))))
            (subst (λ (x : ℕ). Cong Q (pow w x *ℤ pow z (2 * j + 1)) (pow w (2 * (i - j)))) (omega arith)
            (cancel w z (2 * (i - j)) (2 * j + 1) inv'))))
            (vanish Q m (i - j) w (omega arith) (omega arith) root')

    -- a polynomial whose values at the odd powers of z are N times v
    pub values : (v : ℕ → ℤ) (j : ℕ) → j < 2 ^ m
        → Cong Q (eval (2 ^ m) (λ k. sum_z (2 ^ m) (λ i. v i *ℤ pow w ((2 * i + 1) * k))) (pow z (2 * j + 1))) (pos (2 ^ m) *ℤ v j)
    unfolding eval geometric
    values v j l = cong_trans Q
        (same Q _ (sum_z (2 ^ m) (λ i. v i *ℤ geometric (2 ^ m) (pow z (2 * j + 1) *ℤ pow w (2 * i + 1)))) (
        sum_same (2 ^ m) _ (λ k. sum_z (2 ^ m) (λ i. v i *ℤ pow (pow z (2 * j + 1) *ℤ pow w (2 * i + 1)) k)) (λ k b.
        *ℤ_comm (sum_z (2 ^ m) (λ i. v i *ℤ pow w ((2 * i + 1) * k))) (pow (pow z (2 * j + 1)) k)
        ∙ sym (sum_scale (2 ^ m) (pow (pow z (2 * j + 1)) k) (λ i. v i *ℤ pow w ((2 * i + 1) * k)))
        ∙ sum_same (2 ^ m) _ _ (λ i c. each i k))
        ∙ sum_swap (2 ^ m) (2 ^ m) (λ k i. v i *ℤ pow (pow z (2 * j + 1) *ℤ pow w (2 * i + 1)) k)
        ∙ sum_same (2 ^ m) _ _ (λ i b. sum_scale (2 ^ m) (v i) (λ k. pow (pow z (2 * j + 1) *ℤ pow w (2 * i + 1)) k))))
        (cong_trans Q
        (cong_one Q (2 ^ m) j (λ i. v i *ℤ geometric (2 ^ m) (pow z (2 * j + 1) *ℤ pow w (2 * i + 1))) l
        (λ i b d. zeroʳ Q (v i) (other-value i j b l d)))
        (cong_trans Q (cong_scale Q (v j) (same-value (2 * j + 1))) (same Q _ _ (*ℤ_comm (v j) (pos (2 ^ m))))))
      where
        turn : (x a b : ℤ) → x *ℤ (a *ℤ b) ≡ a *ℤ (x *ℤ b)
        turn x a b = ring (x ∷ a ∷ b ∷ []) (search forms depth 9) (search forms depth 9) refl

        each : (i k : ℕ) → pow (pow z (2 * j + 1)) k *ℤ (v i *ℤ pow w ((2 * i + 1) * k))
            ≡ v i *ℤ pow (pow z (2 * j + 1) *ℤ pow w (2 * i + 1)) k
        each i k = turn (pow (pow z (2 * j + 1)) k) (v i) (pow w ((2 * i + 1) * k)) ∙ ap (λ (x : ℤ). v i *ℤ x)
            (ap (λ (x : ℤ). pow (pow z (2 * j + 1)) k *ℤ x) (pow_mul w (2 * i + 1) k)
            ∙ sym (pow_product (pow z (2 * j + 1)) (pow w (2 * i + 1)) k))

-- half of Q + 1 is the inverse of 2, and its powers those of the powers of 2
pub halves : (Q m : ℕ) → Q % 2 ≡ 1 → Cong Q (pos (2 ^ m) *ℤ pow (pos (Q / 2 + 1)) m) (pos 1)
unfolding pow lib.IntN.one
halves Q zero o = cong_refl Q (pos 1)
halves Q (suc m) o = cong_trans Q
    (same Q _ _ (ap (λ (n : ℕ). pos n *ℤ (pow (pos (Q / 2 + 1)) m *ℤ pos (Q / 2 + 1))) {y = 2 ^ m * 2} (omega arith)
    ∙ mix (pos (2 ^ m)) (pow (pos (Q / 2 + 1)) m) (pos (Q / 2 + 1))))
    (cong_mul Q (halves Q m o) half)
  where
    mix : (x y h : ℤ) → x *ℤ pos 2 *ℤ (y *ℤ h) ≡ x *ℤ y *ℤ (pos 2 *ℤ h)
    mix x y h = ring (x ∷ y ∷ h ∷ []) (search forms depth 9) (search forms depth 9) refl

    half : Cong Q (pos 2 *ℤ pos (Q / 2 + 1)) (pos 1)
    half = record { times = pos 1; is = omega (arith, ints) }

-- z^(2N - 1) is the inverse of z, and each odd power of z a root of X^N + 1
pub root_inverse : (Q N : ℕ) (z : ℤ) → 0 < N → Cong Q (pow z N) (negsuc 0) → Cong Q (z *ℤ pow z (N + N - 1)) (pos 1)
unfolding pow
root_inverse Q N z some root = cong_trans Q
    (same Q _ _ (*ℤ_comm z (pow z (N + N - 1)) ∙ ap (pow z) {x = suc (N + N - 1)} {y = N + N} (omega arith) ∙ pow-add z N N))
    (cong_mul Q root root)

pub root_odd : (Q N k : ℕ) (z : ℤ) → Cong Q (pow z N) (negsuc 0) → Cong Q (pow (pow z (2 * k + 1)) N) (negsuc 0)
root_odd Q N k z root = cong_trans Q
    (same Q _ _ (sym (pow_mul z (2 * k + 1) N) ∙ ap (pow z) (mul_comm (2 * k + 1) N) ∙ pow_mul z N (2 * k + 1)))
    (cong_trans Q (pow_cong Q (2 * k + 1) root) (same Q _ _ (pow_odd k)))

-- a factor N can be taken off, where Q is odd
cancel_N : (Q m : ℕ) → Q % 2 ≡ 1 → (x y : ℤ) → Cong Q (pos (2 ^ m) *ℤ x) (pos (2 ^ m) *ℤ y) → Cong Q x y
cancel_N Q m odd x y h = cong_trans Q (back x) (cong_trans Q (cong_scale Q (pow (pos (Q / 2 + 1)) m) h) (cong_sym Q (back y)))
  where
    shape : (n i x : ℤ) → n *ℤ i *ℤ x ≡ i *ℤ (n *ℤ x)
    shape n i x = ring (n ∷ i ∷ x ∷ []) (search forms depth 9) (search forms depth 9) refl

    unit : (x : ℤ) → x ≡ pos 1 *ℤ x
    unit x = omega (arith, ints)

    back : (x : ℤ) → Cong Q x (pow (pos (Q / 2 + 1)) m *ℤ (pos (2 ^ m) *ℤ x))
    back x = cong_trans Q (same Q _ _ (unit x))
        (cong_trans Q (cong_mul Q (cong_sym Q (halves Q m odd)) (cong_refl Q x))
        (same Q _ _ (shape (pos (2 ^ m)) (pow (pos (Q / 2 + 1)) m) x)))

-- the values at the odd powers of z settle the polynomial, and every list of values is that of a polynomial
settled₂ : (Q m : ℕ) (z : ℤ) → Q % 2 ≡ 1 → Cong Q (pow z (2 ^ m)) (negsuc 0) → (a b : Poly)
    → ((j : ℕ) → j < 2 ^ m → Cong Q (eval (2 ^ m) a (pow z (2 * j + 1))) (eval (2 ^ m) b (pow z (2 * j + 1))))
    → Alike Q (2 ^ m) a b
settled₂ Q m z odd root a b h k l =
    let w : ℤ = pow z (2 ^ m + 2 ^ m - 1) in
    let inv : Cong Q (z *ℤ pow z (2 ^ m + 2 ^ m - 1)) (pos 1) = root_inverse Q (2 ^ m) z (omega arith) root in
    cancel_N Q m odd (a k) (b k)
    (cong_trans Q (cong_sym Q (coefficients Q m z w root inv a k l))
    (cong_trans Q (cong_sum Q (2 ^ m) _ _ (λ j b. cong_mul Q (h j b) (cong_refl Q _))) (coefficients Q m z w root inv b k l)))

pub settled : (Q N m : ℕ) (z : ℤ) → N ≡ 2 ^ m → Q % 2 ≡ 1 → Cong Q (pow z N) (negsuc 0) → (a b : Poly)
    → ((j : ℕ) → j < N → Cong Q (eval N a (pow z (2 * j + 1))) (eval N b (pow z (2 * j + 1))))
    → Alike Q N a b
settled Q N m z e odd = subst (λ (N : ℕ). Cong Q (pow z N) (negsuc 0) → (a b : Poly)
    → ((j : ℕ) → j < N → Cong Q (eval N a (pow z (2 * j + 1))) (eval N b (pow z (2 * j + 1)))) → Alike Q N a b)
    (sym e) (settled₂ Q m z odd)

interpolates₂ : (Q m : ℕ) (z : ℤ) → Q % 2 ≡ 1 → Cong Q (pow z (2 ^ m)) (negsuc 0) → (v : ℕ → ℤ) (j : ℕ) → j < 2 ^ m
    → Cong Q (eval (2 ^ m) (interpolated Q (2 ^ m) m z v) (pow z (2 * j + 1))) (v j)
unfolding interpolated
interpolates₂ Q m z odd root v j l =
    let w : ℤ = pow z (2 ^ m + 2 ^ m - 1) in
    let h : ℤ = pow (pos (Q / 2 + 1)) m in
    let inv : Cong Q (z *ℤ pow z (2 ^ m + 2 ^ m - 1)) (pos 1) = root_inverse Q (2 ^ m) z (omega arith) root in
    cong_trans Q (same Q _ _ (eval_scale (2 ^ m) h (λ k. sum_z (2 ^ m) (λ i. v i *ℤ pow w ((2 * i + 1) * k))) (pow z (2 * j + 1))))
    (cong_trans Q (cong_scale Q h (values Q m z w root inv v j l))
    (cong_trans Q (same Q _ _ (order h (pos (2 ^ m)) (v j)))
    (cong_trans Q (cong_mul Q (halves Q m odd) (cong_refl Q (v j))) (same Q _ _ (unit (v j))))))
  where
    order : (h n v : ℤ) → h *ℤ (n *ℤ v) ≡ n *ℤ h *ℤ v
    order h n v = ring (h ∷ n ∷ v ∷ []) (search forms depth 9) (search forms depth 9) refl

    unit : (x : ℤ) → pos 1 *ℤ x ≡ x
    unit x = omega (arith, ints)

pub interpolates : (Q N m : ℕ) (z : ℤ) → N ≡ 2 ^ m → Q % 2 ≡ 1 → Cong Q (pow z N) (negsuc 0) → (v : ℕ → ℤ) (j : ℕ) → j < N
    → Cong Q (eval N (interpolated Q N m z v) (pow z (2 * j + 1))) (v j)
interpolates Q N m z e odd = subst (λ (N : ℕ). Cong Q (pow z N) (negsuc 0) → (v : ℕ → ℤ) (j : ℕ) → j < N
    → Cong Q (eval N (interpolated Q N m z v) (pow z (2 * j + 1))) (v j))
    (sym e) (interpolates₂ Q m z odd)
