-- Steps of a sweep under the ring secret: the exponents add up, and so do the noises.
use Rattle.std.proofs.Common.{◌≡◌, ℕ, zero, suc, ◌+◌, ◌-◌, ◌*◌, ◌/◌, ◌<◌, ◌≤◌, List, [], ◌∷◌, get_or, ℤ, pos, ◌+ℤ◌, ◌-ℤ◌, ◌*ℤ◌, neg_ℤ, sym, refl, ap, ◌∙◌, subst, ap₂, mul-le-mul_right, mul-zero, mul-one, arith}
use borrow.Author.Differences.{ints}
use Rattle.algebra.proofs.Solve.{ring, forms}
use Rattle.algebra.proofs.Cong.{same, cong_refl}
use Rattle.algebra.proofs.Powers.{power_zero, power_scale, power_add}
use Rattle.algebra.proofs.Poly.{mul_plusʳ, mul_minusʳ, mul_powerʳ}
use Rattle.algebra.proofs.Norms.{mul_alike}
use Rattle.algebra.proofs.Near.{near_refl, cong_near, near_to, near_more, near_trans, near_plus, nearby_power, nearby_turned}
use Rattle.algebra.proofs.Words.{words_alike, words_below}
use Rattle.algebra.proofs.Keys.{split_words, start_near, bit_near}
use Rattle.algebra.specs.Polys.{Poly, Same, Alike, plus, scale, power, mul, weight}
use Rattle.algebra.specs.Near.{Nearby}
use Rattle.algebra.specs.Words.{coeffs}
use Rattle.algebra.specs.Keys.{StartKey, Selector, bit, Splits, split, taken}
use Rattle.algebra.specs.Digits.{Covers}
use Rattle.algebra.specs.Sweeps.{Carries, turned, stepped, paired, external, singles, pairs, total, Sweeps, single_noise, paired_noise}

-- the exponents of pairs
pub total_pairs : (n : ℕ) (e : ℕ → ℕ) → total n (λ t. e (2 * t) + e (2 * t + 1)) ≡ total (2 * n) e
unfolding total
total_pairs zero e = ap (λ (i : ℕ). total i e) {x = 0} {y = 2 * 0} (omega arith)
total_pairs (suc n) e =
    let h : total n (λ t. e (2 * t) + e (2 * t + 1)) ≡ total (2 * n) e = total_pairs n e in
    let i : e (2 * n + 1) ≡ e (suc (2 * n)) = ap e (omega arith) in
    omega arith ∙ ap (λ (i : ℕ). total i e) {x = suc (suc (2 * n))} {y = 2 * suc n} (omega arith)

-- X^j - 1 goes in and out of a product
pub mul_turned : (N j : ℕ) (f T : Poly) → Same N (mul N f (turned N j T)) (turned N j (mul N f T))
mul_turned N j f T k l =
    mul_minusʳ N f (power N j T) T k l ∙ ap (λ (x : ℤ). x -ℤ mul N f T k) (mul_powerʳ N j f T k l)

-- (X^j - 1) c y, place by place
turned_scale : (N j : ℕ) (c : ℤ) (y : Poly) → Same N (turned N j (scale c y)) (λ k. c *ℤ power N j y k -ℤ c *ℤ y k)
turned_scale N j c y k l = ap (λ (x : ℤ). x -ℤ c *ℤ y k) (power_scale N j c y k l)

-- y + (X^j - 1) s y is X^(j s) y, for a bit s
single_exact : (N j s : ℕ) (y : Poly) (k : ℕ) → s ≤ 1 → y k +ℤ (pos s *ℤ power N j y k -ℤ pos s *ℤ y k) ≡ power N (j * s) y k
single_exact N j zero y k b = none (y k) (power N j y k) ∙ rw mul-zero (sym (power_zero N y k))
  where
    none : (o x : ℤ) → o +ℤ (pos 0 *ℤ x -ℤ pos 0 *ℤ o) ≡ o
    none o x = ring (o ∷ x ∷ []) (search forms depth 9) (search forms depth 9) refl
single_exact N j (suc zero) y k b = all (y k) (power N j y k) ∙ rw mul-one refl
  where
    all : (o x : ℤ) → o +ℤ (pos 1 *ℤ x -ℤ pos 1 *ℤ o) ≡ x
    all o x = ring (o ∷ x ∷ []) (search forms depth 9) (search forms depth 9) refl
single_exact N j (suc (suc s)) y k b = absurd (omega arith)

-- of three parts that turn y, at most one counts: which, two bits say
parts : (c₁ c₂ c₃ o x y z : ℤ)
    → o +ℤ ((c₁ *ℤ x -ℤ c₁ *ℤ o) +ℤ ((c₂ *ℤ y -ℤ c₂ *ℤ o) +ℤ (c₃ *ℤ z -ℤ c₃ *ℤ o)))
    ≡ c₁ *ℤ x +ℤ (c₂ *ℤ y +ℤ (c₃ *ℤ z +ℤ (pos 1 +ℤ neg_ℤ (c₁ +ℤ (c₂ +ℤ c₃))) *ℤ o))
parts c₁ c₂ c₃ o x y z =
    ring (c₁ ∷ c₂ ∷ c₃ ∷ o ∷ x ∷ y ∷ z ∷ []) (search forms depth 12) (search forms depth 12) refl

pair_exact : (N a b s t : ℕ) (y : Poly) (k : ℕ) → s ≤ 1 → t ≤ 1
    → y k +ℤ ((pos (s * t) *ℤ power N (a + b) y k -ℤ pos (s * t) *ℤ y k)
    +ℤ ((pos (s * (1 - t)) *ℤ power N a y k -ℤ pos (s * (1 - t)) *ℤ y k)
    +ℤ (pos (t * (1 - s)) *ℤ power N b y k -ℤ pos (t * (1 - s)) *ℤ y k)))
    ≡ power N (a * s + b * t) y k
pair_exact N a b zero zero y k hs ht =
    parts (pos 0) (pos 0) (pos 0) (y k) (power N (a + b) y k) (power N a y k) (power N b y k)
    ∙ omega (arith, ints, power_zero N y k, ap (λ (i : ℕ). power N i y k) {x = 0} {y = a * 0 + b * 0} (omega arith))
pair_exact N a b zero (suc zero) y k hs ht =
    parts (pos 0) (pos 0) (pos 1) (y k) (power N (a + b) y k) (power N a y k) (power N b y k)
    ∙ omega (arith, ints, ap (λ (i : ℕ). power N i y k) {x = b} {y = a * 0 + b * 1} (omega arith))
pair_exact N a b zero (suc (suc t)) y k hs ht = absurd (omega arith)
pair_exact N a b (suc zero) zero y k hs ht =
    parts (pos 0) (pos 1) (pos 0) (y k) (power N (a + b) y k) (power N a y k) (power N b y k)
    ∙ omega (arith, ints, ap (λ (i : ℕ). power N i y k) {x = a} {y = a * 1 + b * 0} (omega arith))
pair_exact N a b (suc zero) (suc zero) y k hs ht =
    parts (pos 1) (pos 0) (pos 0) (y k) (power N (a + b) y k) (power N a y k) (power N b y k)
    ∙ omega (arith, ints, ap (λ (i : ℕ). power N i y k) {x = a + b} {y = a * 1 + b * 1} (omega arith))
pair_exact N a b (suc zero) (suc (suc t)) y k hs ht = absurd (omega arith)
pair_exact N a b (suc (suc s)) t y k hs ht = absurd (omega arith)

module _ (Q N : ℕ) (f : Poly) where
  -- no step, a step after steps, many steps
  pub carries_none : (a : Poly) → Carries Q N f 0 0 a a
  unfolding power
  carries_none a k l = near_refl Q 0 (mul N f a k)

  pub carries_then : (σ τ V W : ℕ) (a b c : Poly) → Carries Q N f σ V a b → Carries Q N f τ W b c → Carries Q N f (σ + τ) (V + W) a c
  carries_then σ τ V W a b c u v k l =
      near_more Q (omega arith)
      (near_to Q (near_trans Q (v k l) (nearby_power Q N V τ (mul N f b) (power N σ (mul N f a)) u k l))
      (same Q _ _ (sym (power_add N τ σ (mul N f a) k l)
      ∙ ap (λ (i : ℕ). power N i (mul N f a) k) {x = τ + σ} {y = σ + τ} (omega arith))))

  pub carries_steps : (n V : ℕ) (e : ℕ → ℕ) (acc : ℕ → Poly) → ((t : ℕ) → t < n → Carries Q N f (e t) V (acc t) (acc (suc t)))
      → Carries Q N f (total n e) (n * V) (acc 0) (acc n)
  unfolding total
  carries_steps zero V e acc h = subst (λ (x : ℕ). Carries Q N f 0 x (acc 0) (acc 0)) {y = 0 * V} (omega arith) (carries_none (acc 0))
  carries_steps (suc n) V e acc h =
      subst (λ (x : ℕ). Carries Q N f (total n e + e n) x (acc 0) (acc (suc n))) {x = n * V + V} {y = suc n * V} (omega arith)
      (carries_then (total n e) (e n) (n * V) V (acc 0) (acc n) (acc (suc n))
      (carries_steps n V e acc (λ t l. h t (omega arith))) (h n (omega arith)))

  -- another accumulator of the same words, a larger noise, an exponent that agrees modulo 2N
  pub carries_alike : (σ V : ℕ) (a b c : Poly) → Alike Q N b c → Carries Q N f σ V a c → Carries Q N f σ V a b
  carries_alike σ V a b c e h k l = cong_near Q (mul_alike Q N f f b c (λ k l. cong_refl Q (f k)) e k l) (h k l)

  pub carries_more : (σ V W : ℕ) (a b : Poly) → V ≤ W → Carries Q N f σ V a b → Carries Q N f σ W a b
  carries_more σ V W a b e h k l = near_more Q e (h k l)

  -- a single step, for T near s times old under f
  pub single_carries : (j s W : ℕ) (T old : Poly) → s ≤ 1 → Nearby Q N W (mul N f T) (scale (pos s) (mul N f old))
      → Carries Q N f (j * s) (2 * W) old (stepped N j T old)
  single_carries j s W T old b h k l =
      cong_near Q (same Q _ _ (mul_plusʳ N f old (turned N j T) k l ∙ ap (λ (x : ℤ). mul N f old k +ℤ x) (mul_turned N j f T k l)))
      (near_more Q (omega arith)
      (near_to Q (near_plus Q (near_refl Q 0 (mul N f old k)) (nearby_turned Q N W j (mul N f T) (scale (pos s) (mul N f old)) h k l))
      (same Q _ _ (ap (λ (x : ℤ). mul N f old k +ℤ x) (turned_scale N j (pos s) (mul N f old) k l)
      ∙ single_exact N j s (mul N f old) k b))))

  -- a paired step, for T, U, W near s t, s (1 - t), t (1 - s) times old under f
  pub paired_carries : (a b s t V₁ V₂ V₃ : ℕ) (T U W old : Poly) → s ≤ 1 → t ≤ 1
      → Nearby Q N V₁ (mul N f T) (scale (pos (s * t)) (mul N f old))
      → Nearby Q N V₂ (mul N f U) (scale (pos (s * (1 - t))) (mul N f old))
      → Nearby Q N V₃ (mul N f W) (scale (pos (t * (1 - s))) (mul N f old))
      → Carries Q N f (a * s + b * t) (2 * (V₁ + V₂ + V₃)) old (paired N a b T U W old)
  paired_carries a b s t V₁ V₂ V₃ T U W old hs ht h₁ h₂ h₃ k l =
      cong_near Q (same Q _ _ shape)
      (near_more Q (omega arith)
      (near_to Q
      (near_plus Q (near_refl Q 0 (mul N f old k))
      (near_plus Q (nearby_turned Q N V₁ (a + b) (mul N f T) (scale (pos (s * t)) (mul N f old)) h₁ k l)
      (near_plus Q (nearby_turned Q N V₂ a (mul N f U) (scale (pos (s * (1 - t))) (mul N f old)) h₂ k l)
      (nearby_turned Q N V₃ b (mul N f W) (scale (pos (t * (1 - s))) (mul N f old)) h₃ k l))))
      (same Q _ _ (ap (λ (x : ℤ). mul N f old k +ℤ x)
      (ap₂ ◌+ℤ◌ (turned_scale N (a + b) (pos (s * t)) (mul N f old) k l)
      (ap₂ ◌+ℤ◌ (turned_scale N a (pos (s * (1 - t))) (mul N f old) k l)
      (turned_scale N b (pos (t * (1 - s))) (mul N f old) k l)))
      ∙ pair_exact N a b s t (mul N f old) k hs ht))))
    where
      shape : mul N f (paired N a b T U W old) k
          ≡ mul N f old k +ℤ (turned N (a + b) (mul N f T) k +ℤ (turned N a (mul N f U) k +ℤ turned N b (mul N f W) k))
      shape =
          mul_plusʳ N f old (plus (turned N (a + b) T) (plus (turned N a U) (turned N b W))) k l
          ∙ ap (λ (x : ℤ). mul N f old k +ℤ x) (
          mul_plusʳ N f (turned N (a + b) T) (plus (turned N a U) (turned N b W)) k l
          ∙ ap₂ ◌+ℤ◌ (mul_turned N (a + b) f T k l) (
          mul_plusʳ N f (turned N a U) (turned N b W) k l
          ∙ ap₂ ◌+ℤ◌ (mul_turned N a f U k l) (mul_turned N b f W k l)))

-- the digits of c are those of each polynomial congruent to c
pub splits_alike : (Q N P B d b G : ℕ) (c c' : Poly) (D : ℕ → Poly) → Alike Q N c c' → Splits Q N P B d b G c D → Splits Q N P B d b G c' D
splits_alike Q N P B d b G c c' D e h = record {
  digits = h.digits;
  together = λ k l. near_to Q (h.together k l) (e k l);
}

-- steps by keys, with their noise
module _ (Q N P B d E G F : ℕ) (f : Poly) (even : B ≡ 2 * (B / 2)) (light : weight N f ≤ F) where
  doubled : N * d * B * E ≡ 2 * (N * d * (B / 2) * E)
  doubled = ap (λ (x : ℕ). N * d * x * E) even ∙ omega arith

  pub single_step : (j s : ℕ) (old new : Poly) (D p : ℕ → Poly) → s ≤ 1
      → Splits Q N P B d (B / 2) G old D → Selector Q N P B d E f (bit s) p
      → Alike Q N new (stepped N j (taken N d D p) old)
      → Carries Q N f (j * s) (single_noise N d B E G F) old new
  single_step j s old new D p hs cut key made =
      let T : Poly = taken N d D p in
      let V : ℕ = N * d * (B / 2) * E + s * (G * F) in
      let m : s * (G * F) ≤ 1 * (G * F) = mul-le-mul_right (G * F) hs in
      let enough : 2 * (N * d * (B / 2) * E + s * (G * F)) ≤ single_noise N d B E G F = omega (arith, doubled) in
      carries_alike Q N f (j * s) (single_noise N d B E G F) old new (stepped N j T old) made
      (carries_more Q N f (j * s) (2 * V) (single_noise N d B E G F) old (stepped N j T old) enough
      (single_carries Q N f j s V T old hs (bit_near Q N P B d E (B / 2) G f old D p cut s F light key)))

  one_of_three : (s t Y : ℕ) → s ≤ 1 → t ≤ 1 → s * t * Y + s * (1 - t) * Y + t * (1 - s) * Y ≤ Y
  one_of_three zero zero Y hs ht = omega arith
  one_of_three zero (suc zero) Y hs ht = omega arith
  one_of_three zero (suc (suc t)) Y hs ht = absurd (omega arith)
  one_of_three (suc zero) zero Y hs ht = omega arith
  one_of_three (suc zero) (suc zero) Y hs ht = omega arith
  one_of_three (suc zero) (suc (suc t)) Y hs ht = absurd (omega arith)
  one_of_three (suc (suc s)) t Y hs ht = absurd (omega arith)

  pub paired_step_lem : (a b s t : ℕ) (old new : Poly) (D p₁ p₂ p₃ : ℕ → Poly) → s ≤ 1 → t ≤ 1
      → Splits Q N P B d (B / 2) G old D
      → Selector Q N P B d E f (bit (s * t)) p₁
      → Selector Q N P B d E f (bit (s * (1 - t))) p₂
      → Selector Q N P B d E f (bit (t * (1 - s))) p₃
      → Alike Q N new (paired N a b (taken N d D p₁) (taken N d D p₂) (taken N d D p₃) old)
      → Carries Q N f (a * s + b * t) (paired_noise N d B E G F) old new
  paired_step_lem a b s t old new D p₁ p₂ p₃ hs ht cut k₁ k₂ k₃ made =
      let X : ℕ = N * d * (B / 2) * E in
      let Y : ℕ = G * F in
      let V : ℕ = (X + s * t * Y) + (X + s * (1 - t) * Y) + (X + t * (1 - s) * Y) in
      let three : Poly = paired N a b (taken N d D p₁) (taken N d D p₂) (taken N d D p₃) old in
      carries_alike Q N f (a * s + b * t) (paired_noise N d B E G F) old new three made
      (carries_more Q N f (a * s + b * t) (2 * V) (paired_noise N d B E G F) old three
      (enough (s * t * (G * F)) (s * (1 - t) * (G * F)) (t * (1 - s) * (G * F)) (one_of_three s t (G * F) hs ht))
      (paired_carries Q N f a b s t (X + s * t * Y) (X + s * (1 - t) * Y) (X + t * (1 - s) * Y)
      (taken N d D p₁) (taken N d D p₂) (taken N d D p₃) old hs ht
      (bit_near Q N P B d E (B / 2) G f old D p₁ cut (s * t) F light k₁)
      (bit_near Q N P B d E (B / 2) G f old D p₂ cut (s * (1 - t)) F light k₂)
      (bit_near Q N P B d E (B / 2) G f old D p₃ cut (t * (1 - s)) F light k₃)))
    where
      enough : (u v w : ℕ) → u + v + w ≤ G * F
          → 2 * ((N * d * (B / 2) * E + u) + (N * d * (B / 2) * E + v) + (N * d * (B / 2) * E + w)) ≤ paired_noise N d B E G F
      enough u v w h = omega (arith, doubled)

  -- whole sweeps: one step for each bit, or for each pair of bits
  pub single_sweep : (n : ℕ) (j s : ℕ → ℕ) (acc : ℕ → Poly) (D p : ℕ → ℕ → Poly)
      → ((t : ℕ) → t < n → s t ≤ 1)
      → ((t : ℕ) → t < n → Splits Q N P B d (B / 2) G (acc t) (D t))
      → ((t : ℕ) → t < n → Selector Q N P B d E f (bit (s t)) (p t))
      → ((t : ℕ) → t < n → Alike Q N (acc (suc t)) (stepped N (j t) (taken N d (D t) (p t)) (acc t)))
      → Carries Q N f (total n (λ t. j t * s t)) (n * single_noise N d B E G F) (acc 0) (acc n)
  single_sweep n j s acc D p bits cut keys made =
      carries_steps Q N f n (single_noise N d B E G F) (λ t. j t * s t) acc (λ t l.
      single_step (j t) (s t) (acc t) (acc (suc t)) (D t) (p t) (bits t l) (cut t l) (keys t l) (made t l))

  pub paired_sweep : (n : ℕ) (j s : ℕ → ℕ) (acc : ℕ → Poly) (D p₁ p₂ p₃ : ℕ → ℕ → Poly)
      → ((t : ℕ) → t < 2 * n → s t ≤ 1)
      → ((t : ℕ) → t < n → Splits Q N P B d (B / 2) G (acc t) (D t))
      → ((t : ℕ) → t < n → Selector Q N P B d E f (bit (s (2 * t) * s (2 * t + 1))) (p₁ t))
      → ((t : ℕ) → t < n → Selector Q N P B d E f (bit (s (2 * t) * (1 - s (2 * t + 1)))) (p₂ t))
      → ((t : ℕ) → t < n → Selector Q N P B d E f (bit (s (2 * t + 1) * (1 - s (2 * t)))) (p₃ t))
      → ((t : ℕ) → t < n → Alike Q N (acc (suc t))
      (paired N (j (2 * t)) (j (2 * t + 1)) (taken N d (D t) (p₁ t)) (taken N d (D t) (p₂ t)) (taken N d (D t) (p₃ t)) (acc t)))
      → Carries Q N f (total (2 * n) (λ t. j t * s t)) (n * paired_noise N d B E G F) (acc 0) (acc n)
  paired_sweep n j s acc D p₁ p₂ p₃ bits cut k₁ k₂ k₃ made =
      subst (λ (i : ℕ). Carries Q N f i (n * paired_noise N d B E G F) (acc 0) (acc n)) (total_pairs n (λ t. j t * s t))
      (carries_steps Q N f n (paired_noise N d B E G F) (λ t. j (2 * t) * s (2 * t) + j (2 * t + 1) * s (2 * t + 1)) acc (λ t l.
      paired_step_lem (j (2 * t)) (j (2 * t + 1)) (s (2 * t)) (s (2 * t + 1)) (acc t) (acc (suc t)) (D t) (p₁ t) (p₂ t) (p₃ t)
      (bits (2 * t) (omega arith)) (bits (2 * t + 1) (omega arith)) (cut t l) (k₁ t l) (k₂ t l) (k₃ t l) (made t l)))

  -- the start, and the sweep after it
  pub swept : (σ W : ℕ) (c first last : Poly) (D p : ℕ → Poly)
      → Splits Q N P B d (B / 2) G c D → StartKey Q N P B d E f p → Alike Q N first (taken N d D p)
      → Carries Q N f σ W first last
      → Nearby Q N (N * d * (B / 2) * E + G + W) (mul N f last) (power N σ c)
  swept σ W c first last D p cut key made moved k l =
      let V : ℕ = N * d * (B / 2) * E + G in
      near_more Q (omega arith)
      (near_trans Q (moved k l)
      (nearby_power Q N V σ (mul N f first) c (λ k l.
      cong_near Q (mul_alike Q N f f first (taken N d D p) (λ k l. cong_refl Q (f k)) made k l)
      (start_near Q N P B d E (B / 2) G f c D p cut key k l)) k l))

-- the sweeps of words do what is asked of a sweep
module _ (Q N P B d E F : ℕ) (f : Poly) (some : 0 < Q) (ok : Covers Q P B d) (light : weight N f ≤ F) where
  pub singles_below : (keys : ℕ → ℕ → Poly) (e : ℕ → ℕ) (acc : List ℕ) → ((k : ℕ) → k < N → get_or acc k 0 < Q)
      → (t k : ℕ) → k < N → get_or (singles N Q P B d keys e t acc) k 0 < Q
  unfolding singles
  singles_below keys e acc h zero k l = h k l
  singles_below keys e acc h (suc t) k l = words_below N Q _ some k l

  pub singles_sweep : (n : ℕ) (s : ℕ → ℕ) (keys : ℕ → ℕ → Poly)
      → ((t : ℕ) → t < n → s t ≤ 1) → ((t : ℕ) → t < n → Selector Q N P B d E f (bit (s t)) (keys t))
      → Sweeps Q N f n s (n * single_noise N d B E (P / 2) F) (λ e. singles N Q P B d keys e n)
  unfolding singles
  singles_sweep n s keys bits fit e acc below =
      let at : ℕ → List ℕ = λ t. singles N Q P B d keys e t acc in
      single_sweep Q N P B d E (P / 2) F f ok.even.1 light n e s (λ t. coeffs (at t)) (λ t. split Q P B d (at t)) keys bits
      (λ t l. split_words Q N P B d (at t) ok (singles_below keys e acc below t))
      fit
      (λ t l. words_alike N Q (stepped N (e t) (external N Q P B d (at t) (keys t)) (coeffs (at t))) some)

  pub pairs_below : (keys₁ keys₂ keys₃ : ℕ → ℕ → Poly) (e : ℕ → ℕ) (acc : List ℕ) → ((k : ℕ) → k < N → get_or acc k 0 < Q)
      → (t k : ℕ) → k < N → get_or (pairs N Q P B d keys₁ keys₂ keys₃ e t acc) k 0 < Q
  unfolding pairs
  pairs_below keys₁ keys₂ keys₃ e acc h zero k l = h k l
  pairs_below keys₁ keys₂ keys₃ e acc h (suc t) k l = words_below N Q _ some k l

  pub pairs_sweep : (n : ℕ) (s : ℕ → ℕ) (keys₁ keys₂ keys₃ : ℕ → ℕ → Poly)
      → ((t : ℕ) → t < 2 * n → s t ≤ 1)
      → ((t : ℕ) → t < n → Selector Q N P B d E f (bit (s (2 * t) * s (2 * t + 1))) (keys₁ t))
      → ((t : ℕ) → t < n → Selector Q N P B d E f (bit (s (2 * t) * (1 - s (2 * t + 1)))) (keys₂ t))
      → ((t : ℕ) → t < n → Selector Q N P B d E f (bit (s (2 * t + 1) * (1 - s (2 * t)))) (keys₃ t))
      → Sweeps Q N f (2 * n) s (n * paired_noise N d B E (P / 2) F) (λ e. pairs N Q P B d keys₁ keys₂ keys₃ e n)
  unfolding pairs
  pairs_sweep n s keys₁ keys₂ keys₃ bits fit₁ fit₂ fit₃ e acc below =
      let at : ℕ → List ℕ = λ t. pairs N Q P B d keys₁ keys₂ keys₃ e t acc in
      paired_sweep Q N P B d E (P / 2) F f ok.even.1 light n e s (λ t. coeffs (at t)) (λ t. split Q P B d (at t))
      keys₁ keys₂ keys₃ bits
      (λ t l. split_words Q N P B d (at t) ok (pairs_below keys₁ keys₂ keys₃ e acc below t))
      fit₁ fit₂ fit₃
      (λ t l. words_alike N Q (paired N (e (2 * t)) (e (2 * t + 1)) (external N Q P B d (at t) (keys₁ t))
      (external N Q P B d (at t) (keys₂ t)) (external N Q P B d (at t) (keys₃ t)) (coeffs (at t))) some)
