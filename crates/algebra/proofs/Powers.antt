-- Powers of X times a polynomial.
use Rattle.std.proofs.Common.{◌≡◌, ℕ, zero, suc, ◌+◌, ◌-◌, ◌*◌, ◌/◌, ◌%◌, ◌<◌, ◌≤◌, Bool, cond, ℤ, pos, ◌*ℤ◌, neg_ℤ, sym, refl, ap, ◌∙◌, suc-add, div-add-mod', zero-add, arith, le-ltb, lt-ltb}
use native.Mathlib.Decide.{dec_lt}
use borrow.Author.Differences.{ints}
use lib.IntN.{neg_ℤ-+ℤ}
use Rattle.algebra.proofs.Ring.{negʳ}
use Rattle.algebra.proofs.Sums.{sum_same, sum_neg}
use Rattle.algebra.specs.Ints.{sum_z}
use Rattle.algebra.specs.Polys.{Poly, Same, Within, one, plus, scale, power, shift, monomial, wrapped}

-- X^0, and X times X^i
pub power_zero : (N : ℕ) (q : Poly) (k : ℕ) → power N 0 q k ≡ q k
unfolding power
power_zero N q k = refl

pub power_shift : (N i : ℕ) (q : Poly) (k : ℕ) → k < N → power N i (shift N q) k ≡ power N (suc i) q k
unfolding power
power_shift zero i q k l = absurd (omega arith)
power_shift (suc m) zero q k l = refl
power_shift (suc m) (suc i) q zero l = ap neg_ℤ (power_shift (suc m) i q m (omega arith))
power_shift (suc m) (suc i) q (suc k) l = power_shift (suc m) i q k (omega arith)

-- of sums and multiples
pub power_plus : (N i : ℕ) (q r : Poly) → Same N (power N i (plus q r)) (plus (power N i q) (power N i r))
unfolding power
power_plus zero i q r k l = absurd (omega arith)
power_plus (suc m) zero q r k l = refl
power_plus (suc m) (suc i) q r zero l =
    ap neg_ℤ (power_plus (suc m) i q r m (omega arith)) ∙ neg_ℤ-+ℤ (power (suc m) i q m) (power (suc m) i r m)
power_plus (suc m) (suc i) q r (suc k) l = power_plus (suc m) i q r k (omega arith)

pub power_scale : (N i : ℕ) (c : ℤ) (q : Poly) → Same N (power N i (scale c q)) (scale c (power N i q))
unfolding power
power_scale zero i c q k l = absurd (omega arith)
power_scale (suc m) zero c q k l = refl
power_scale (suc m) (suc i) c q zero l =
    ap neg_ℤ (power_scale (suc m) i c q m (omega arith)) ∙ sym (negʳ c (power (suc m) i q m))
power_scale (suc m) (suc i) c q (suc k) l = power_scale (suc m) i c q k (omega arith)

pub power_sum : (N i n : ℕ) (c : ℕ → ℤ) (f : ℕ → Poly)
    → Same N (power N i (λ k. sum_z n (λ j. c j *ℤ f j k))) (λ k. sum_z n (λ j. c j *ℤ power N i (f j) k))
unfolding power
power_sum zero i n c f k l = absurd (omega arith)
power_sum (suc m) zero n c f k l = refl
power_sum (suc m) (suc i) n c f zero l =
    ap neg_ℤ (power_sum (suc m) i n c f m (omega arith))
    ∙ sym (sum_neg n (λ j. c j *ℤ power (suc m) i (f j) m))
    ∙ sum_same n _ _ (λ j b. sym (negʳ (c j) (power (suc m) i (f j) m)))
power_sum (suc m) (suc i) n c f (suc k) l = power_sum (suc m) i n c f k (omega arith)

-- of coefficients in a relation that signs keep: equal, congruent
module _ (R : ℤ → ℤ → Type 0) (neg : (a b : ℤ) → R a b → R (neg_ℤ a) (neg_ℤ b)) where
  pub shift_keeps : (N : ℕ) (p q : Poly) → ((k : ℕ) → k < N → R (p k) (q k)) → (k : ℕ) → k < N → R (shift N p k) (shift N q k)
  shift_keeps zero p q h k l = h k l
  shift_keeps (suc m) p q h zero l = neg (p m) (q m) (h m (omega arith))
  shift_keeps (suc m) p q h (suc k) l = h k (omega arith)

  pub power_keeps : (N i : ℕ) (p q : Poly) → ((k : ℕ) → k < N → R (p k) (q k)) → (k : ℕ) → k < N → R (power N i p k) (power N i q k)
  unfolding power
  power_keeps N zero p q h = h
  power_keeps N (suc i) p q h = shift_keeps N (power N i p) (power N i q) (power_keeps N i p q h)

pub shift_same : (N : ℕ) (p q : Poly) → Same N p q → Same N (shift N p) (shift N q)
shift_same = shift_keeps ◌≡◌ (λ a b e. ap neg_ℤ e)

pub power_same : (N i : ℕ) (p q : Poly) → Same N p q → Same N (power N i p) (power N i q)
power_same = power_keeps ◌≡◌ (λ a b e. ap neg_ℤ e)

-- place by place
past : (m i : ℕ) (q : Poly) (k : ℕ) → power (suc m) i q (i + k) ≡ q k
unfolding power
past m zero q k = rw zero-add
past m (suc i) q k = rw suc-add (past m i q k)

before : (m k j : ℕ) (q : Poly) → power (suc m) (k + suc j) q k ≡ neg_ℤ (power (suc m) j q m)
unfolding power
before m zero j q = rw zero-add
before m (suc k) j q = rw suc-add (before m k j q)

pub power_past : (N i : ℕ) (q : Poly) (k : ℕ) → i ≤ k → k < N → power N i q k ≡ q (k - i)
power_past zero i q k a l = absurd (omega arith)
power_past (suc m) i q k a l = ap (power (suc m) i q) {x = k} {y = i + (k - i)} (omega arith) ∙ past m i q (k - i)

pub power_back : (N i : ℕ) (q : Poly) (k : ℕ) → k < i → i ≤ N → power N i q k ≡ neg_ℤ (q (N + k - i))
power_back zero i q k a l = absurd (omega arith)
power_back (suc m) i q k a l =
    let j : ℕ = i - k - 1 in
    ap (λ (x : ℕ). power (suc m) x q k) {x = i} {y = k + suc (i - k - 1)} (omega arith)
    ∙ before m k (i - k - 1) q
    ∙ ap neg_ℤ (power_past (suc m) (i - k - 1) q m (omega arith) (omega arith)
    ∙ ap q {x = m - (i - k - 1)} {y = suc m + k - i} (omega arith))

pub power_wrapped : (N i : ℕ) (q : Poly) → i ≤ N → Same N (power N i q) (wrapped N i q)
power_wrapped N i q a k l = elim (dec_lt k i) [
  | yes b ↦ power_back N i q k b a ∙ sym (ap (λ (t : Bool). cond t (neg_ℤ (q (N + k - i))) (q (k - i))) (lt-ltb k i b))
  | no n ↦ power_past N i q k (omega (arith, n)) l
      ∙ sym (ap (λ (t : Bool). cond t (neg_ℤ (q (N + k - i))) (q (k - i))) (le-ltb k i (omega (arith, n))))
]

-- exponents add, X^N = -1, X^2N = 1, exponents count modulo 2N
pub power_add : (N i j : ℕ) (q : Poly) → Same N (power N (i + j) q) (power N i (power N j q))
unfolding power
power_add N zero j q k l = rw zero-add
power_add N (suc i) j q k l = rw suc-add (shift_same N _ _ (power_add N i j q) k l)

pub power_N : (N : ℕ) (q : Poly) (k : ℕ) → k < N → power N N q k ≡ neg_ℤ (q k)
power_N N q k l = power_back N N q k l (omega arith) ∙ ap (λ (x : ℕ). neg_ℤ (q x)) {x = N + k - N} {y = k} (omega arith)

pub power_2_n : (N : ℕ) (q : Poly) → Same N (power N (N + N) q) q
power_2_n N q k l =
    power_add N N N q k l ∙ power_N N (power N N q) k l ∙ ap neg_ℤ (power_N N q k l) ∙ omega (arith, ints)

pub power_turns : (N t r : ℕ) (q : Poly) → Same N (power N (t * (N + N) + r) q) (power N r q)
power_turns N zero r q k l = ap (λ (x : ℕ). power N x q k) {x = 0 * (N + N) + r} {y = r} (omega arith)
power_turns N (suc t) r q k l =
    ap (λ (x : ℕ). power N x q k) {x = suc t * (N + N) + r} {y = (N + N) + (t * (N + N) + r)} (omega arith)
    ∙ power_add N (N + N) (t * (N + N) + r) q k l
    ∙ power_2_n N (power N (t * (N + N) + r) q) k l
    ∙ power_turns N t r q k l

pub power_mod : (N i : ℕ) (q : Poly) → Same N (power N i q) (power N (i % (N + N)) q)
power_mod N i q k l =
    ap (λ (x : ℕ). power N x q k) (sym (div-add-mod' i (N + N))) ∙ power_turns N (i / (N + N)) (i % (N + N)) q k l

pub power_agree : (N i j : ℕ) (q : Poly) → i % (N + N) ≡ j % (N + N) → Same N (power N i q) (power N j q)
power_agree N i j q e k l =
    power_mod N i q k l ∙ ap (λ (x : ℕ). power N x q k) e ∙ sym (power_mod N j q k l)

-- place by place past N
pub power_upper : (N j : ℕ) (q : Poly) → j ≤ N → (k : ℕ) → k < N → power N (N + j) q k ≡ neg_ℤ (wrapped N j q k)
power_upper N j q b k l = power_add N N j q k l ∙ power_N N (power N j q) k l ∙ ap neg_ℤ (power_wrapped N j q b k l)

-- the coefficients of X^i
pub monomial_here : (N k : ℕ) → k < N → monomial N k k ≡ pos 1
monomial_here N k l = power_past N k one k (omega arith) l ∙ ap one {x = k - k} {y = 0} (omega arith)

pub monomial_there : (N i k : ℕ) → i < N → k < N → ¬ (i ≡ k) → monomial N i k ≡ pos 0
monomial_there N i k a b d = elim (dec_lt k i) [
  | yes l ↦ power_back N i one k l (omega arith) ∙ ap (λ (x : ℕ). neg_ℤ (one x)) {x = N + k - i} {y = suc (N + k - i - 1)} (omega arith)
  | no n ↦ power_past N i one k (omega (arith, n)) b ∙ ap one {x = k - i} {y = suc (k - i - 1)} (omega (arith, n, d))
]

-- |X^i q| = |q|
pub shift_norm : (N B : ℕ) (q : Poly) → Within N B q → Within N B (shift N q)
shift_norm zero B q h k l = h k l
shift_norm (suc m) B q h zero l = omega (arith, ints, h m (omega arith))
shift_norm (suc m) B q h (suc k) l = h k (omega arith)

pub power_norm : (N B i : ℕ) (q : Poly) → Within N B q → Within N B (power N i q)
unfolding power
power_norm N B zero q h = h
power_norm N B (suc i) q h = shift_norm N B (power N i q) (power_norm N B i q h)
