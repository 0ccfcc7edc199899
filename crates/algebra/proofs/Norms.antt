-- How large the coefficients of a product are, congruent factors, and the constant coefficient.
use Rattle.std.proofs.Common.{◌≡◌, ℕ, zero, suc, ◌+◌, ◌*◌, ◌<◌, ◌≤◌, cond, eqb, ℤ, pos, negsuc, ◌*ℤ◌, neg_ℤ, nat_abs, sym, refl, ◌∙◌, subst, ap₂, mul-le-mul_right, mul_assoc, mul-le-mul, mul-le-mul_left, arith}
use borrow.Author.Differences.{ints}
use Rattle.algebra.proofs.Sums.{sum_bound, abs_add}
use Rattle.algebra.proofs.Cong.{same, cong_trans, cong_neg, cong_mul, cong_sum}
use Rattle.algebra.proofs.Powers.{power_keeps, power_norm}
use Rattle.algebra.proofs.Poly.{mul_powers}
use Rattle.algebra.specs.Ints.{Cong, sum_z}
use Rattle.algebra.specs.Polys.{Poly, Alike, Within, one, scale, shift, power, monomial, mul, weight, nonzeros}

-- absolute values of products and of weighted sums
pub abs_mul : (a b : ℤ) → nat_abs (a *ℤ b) ≡ nat_abs a * nat_abs b
abs_mul (pos a) (pos b) = refl
abs_mul (pos a) (negsuc b) = omega (arith, ints)
abs_mul (negsuc a) (pos b) = omega (arith, ints)
abs_mul (negsuc a) (negsuc b) = refl

pub abs_scale : (k K : ℕ) (a : ℤ) → nat_abs a ≤ K → nat_abs (pos k *ℤ a) ≤ k * K
abs_scale k K a h = subst (λ (x : ℕ). x ≤ k * K) (sym (abs_mul (pos k) a)) (mul-le-mul_left k h)

pub weigh_sum : (n B : ℕ) (f g : ℕ → ℤ) → ((i : ℕ) → i < n → nat_abs (g i) ≤ B) → nat_abs (sum_z n (λ i. f i *ℤ g i)) ≤ weight n f * B
unfolding sum_z weight
weigh_sum zero B f g h = omega arith
weigh_sum (suc n) B f g h = omega (
  arith,
  abs_add (sum_z n (λ i. f i *ℤ g i)) (f n *ℤ g n),
  abs_mul (f n) (g n),
  weigh_sum n B f g (λ i l. h i (omega arith)),
  mul-le-mul_left (nat_abs (f n)) (h n (omega arith)),
)

-- |p q| is at most N |p| |q|
pub mul_norm : (N A B : ℕ) (p q : Poly) → Within N A p → Within N B q → Within N (N * A * B) (mul N p q)
mul_norm N A B p q f g k l =
    subst (λ (x : ℤ). nat_abs x ≤ N * A * B) (sym (mul_powers N p q k l))
    (subst (λ (x : ℕ). nat_abs (sum_z N (λ i. p i *ℤ power N i q k)) ≤ x) (sym (mul_assoc N A B))
    (sum_bound N (A * B) (λ i. p i *ℤ power N i q k) (λ i b.
    subst (λ (x : ℕ). x ≤ A * B) (sym (abs_mul (p i) (power N i q k))) (mul-le-mul (f i b) (power_norm N B i q g k l)))))

-- and at most the weight of p times |q|
pub mul_sparse : (N B : ℕ) (f q : Poly) → Within N B q → Within N (weight N f * B) (mul N f q)
mul_sparse N B f q g k l =
    subst (λ (x : ℤ). nat_abs x ≤ weight N f * B) (sym (mul_powers N f q k l))
    (weigh_sum N B f (λ i. power N i q k) (λ i b. power_norm N B i q g k l))

pub mul_light : (N F B : ℕ) (f q : Poly) → weight N f ≤ F → Within N B q → Within N (F * B) (mul N f q)
mul_light N F B f q w g k l = omega (arith, mul_sparse N B f q g k l, mul-le-mul_right B w)

-- the weight of X^i q is that of q
weight_front : (n : ℕ) (f : Poly) → weight (suc n) f ≡ nat_abs (f 0) + weight n (λ i. f (suc i))
unfolding weight
weight_front zero f = omega arith
weight_front (suc n) f = omega (arith, weight_front n f)

weight_neg : (a : ℤ) → nat_abs (neg_ℤ a) ≡ nat_abs a
weight_neg a = omega (arith, ints)

pub weight_shift : (N : ℕ) (q : Poly) → weight N (shift N q) ≡ weight N q
unfolding weight
weight_shift zero q = refl
weight_shift (suc m) q = omega (arith, weight_front m (shift (suc m) q), weight_neg (q m))

pub weight_power : (N i : ℕ) (q : Poly) → weight N (power N i q) ≡ weight N q
unfolding power
weight_power N zero q = refl
weight_power N (suc i) q = weight_shift N (power N i q) ∙ weight_power N i q

weight_none : (n : ℕ) → weight n (λ i. pos 0) ≡ 0
unfolding weight
weight_none zero = refl
weight_none (suc n) = omega (arith, weight_none n)

pub weight_one : (N : ℕ) → weight N one ≤ 1
unfolding weight
weight_one zero = omega arith
weight_one (suc m) = omega (arith, weight_front m one, weight_none m)

pub weight_monomial : (N i : ℕ) → weight N (monomial N i) ≤ 1
weight_monomial N i = omega (arith, weight_power N i one, weight_one N)

-- and the weight of c q is |c| times that of q
pub weight_scale : (N : ℕ) (c : ℤ) (q : Poly) → weight N (scale c q) ≡ nat_abs c * weight N q
unfolding weight
weight_scale zero c q = omega arith
weight_scale (suc m) c q = omega (arith, weight_scale m c q, abs_mul c (q m))

-- products of congruent factors
pub mul_alike : (Q N : ℕ) (p p' q q' : Poly) → Alike Q N p p' → Alike Q N q q' → Alike Q N (mul N p q) (mul N p' q')
mul_alike Q N p p' q q' f g k l =
    cong_trans Q (same Q _ _ (mul_powers N p q k l))
    (cong_trans Q (cong_sum Q N (λ i. p i *ℤ power N i q k) (λ i. p' i *ℤ power N i q' k) (λ i b.
    cong_mul Q (f i b) (power_keeps (Cong Q) (λ a b e. cong_neg Q e) N i q q' g k l)))
    (same Q _ _ (sym (mul_powers N p' q' k l))))

pub power_alike : (Q N i : ℕ) (p q : Poly) → Alike Q N p q → Alike Q N (power N i p) (power N i q)
power_alike Q N i p q h = power_keeps (Cong Q) (λ a b e. cong_neg Q e) N i p q h

-- the weight of entries -1, 0 and 1 is the number of those that are not 0
pub weight_counts : (n : ℕ) (f : Poly) → ((i : ℕ) → i < n → nat_abs (f i) ≤ 1) → weight n f ≡ nonzeros n f
unfolding weight nonzeros
weight_counts zero f h = refl
weight_counts (suc n) f h = ap₂ ◌+◌ (weight_counts n f (λ i l. h i (omega arith))) (one-or-none (nat_abs (f n)) (h n (omega arith)))
  where
    one-or-none : (a : ℕ) → a ≤ 1 → a ≡ cond (eqb a 0) 0 1
    one-or-none a l = grind arith
