-- What single and paired sweeps mean under secrets that their keys fit.
use Rattle.std.specs.Prelude.{◌≡◌, ℕ, zero, suc, ◌+◌, ◌-◌, ◌*◌, ◌/◌, ◌%◌, ◌^◌, ◌<◌, ◌≤◌, List, [], ◌∷◌, length, ℤ, pos, negsuc, ◌-ℤ◌, ◌*ℤ◌, slice_index, unsigned_abs, refl}
use Rattle.std.proofs.Common.{sym, ap, ◌∙◌, inl, inr, arith, mul-add, mul_assoc, mul-zero}
use Rattle.std.proofs.Math.Path.{subst}
use Rattle.std.proofs.lemmas.Int.{ints}
use Rattle.algebra.specs.Polys.{Poly, Alike, one, scale, weight}
use Rattle.algebra.specs.Digits.{Covers}
use Rattle.algebra.specs.Keys.{Selector, bit, gadget}
use Rattle.algebra.specs.Sweeps.{Carries, total, singles, pairs, external, stepped, paired}
use Rattle.algebra.specs.Words.{coeffs, words}
use Rattle.algebra.proofs.Cong.{same, cong_refl, cong_trans, cong_scale}
use Rattle.algebra.proofs.Digits.{covers_powers}
use Rattle.algebra.proofs.Near.{near_to}
use Rattle.algebra.proofs.Norms.{mul_alike, weight_counts}
use Rattle.algebra.proofs.Sweeps.{singles_sweep, pairs_sweep}
use Rattle.algebra.proofs.Words.{words_long, words_below, words_alike}
use Rattle.kernels.specs.Polynomials.{IsPoly}
use Rattle.set.specs.Noise.{single_noise, paired_noise}
use Rattle.set.specs.declared.numbers.Numbers.{Numbers}
use Rattle.set.specs.declared.within.Within.{Within}
use Rattle.set.specs.declared.checked.Set.{Set}
use Rattle.sweeps.specs.External.{taken_by}
use Rattle.sweeps.specs.Fit.{entries, key_at, RingSecret, SmallSecret, FitSelectors}
use Rattle.sweeps.specs.Meaning.{turns, turn_by, turn_sum}
use Rattle.sweeps.specs.Steps.{single_step, single_steps, single_run, paired_step, paired_steps, paired_run, constant, single_message, pair_part, paired_message}

-- the digits of a set cover its modulus
covers_of : (Q P B d p w : ℕ) → 2 ^ p ≡ P → 2 ^ w ≡ B → 1 ≤ w → 0 < d → Q ≤ P * B ^ d → Covers Q P B d
covers_of Q P B d p zero e f some count reach = absurd (omega arith)
covers_of Q P B d p (suc w) e f some count reach =
    subst (λ (x : ℕ). Covers Q x B d) e (subst (λ (x : ℕ). Covers Q (2 ^ p) x d) f
    (covers_powers Q p w d count (rw (e, f) reach)))

pub set_covers : (s : Set) → Covers s.within.numbers.modulus s.within.numbers.dropped s.within.numbers.base s.within.numbers.digits
set_covers s =
    let n = s.within.numbers in
    let t = s.gadget in
    let a : t.modulus.value ≤ n.dropped * n.base ^ n.digits =
    subst (λ (d : ℕ). t.modulus.value ≤ n.dropped * n.base ^ d) s.digits.3
    (subst (λ (x : ℕ). t.modulus.value ≤ n.dropped * x ^ t.digits) s.digits.2
    (subst (λ (x : ℕ). t.modulus.value ≤ x * (2 ^ t.width) ^ t.digits) s.digits.1 t.reach)) in
    covers_of n.modulus n.dropped n.base n.digits t.shift t.width s.digits.1 s.digits.2 t.base.0
    (omega (arith, s.within.split)) (omega (arith, s.digits.0, a))

pub some_modulus : (w : Within) → 0 < w.numbers.modulus
some_modulus w = omega (arith, w.moduli)

-- the weight of the ring secret
pub secret_light : (n : Numbers) (f : List ℤ) → RingSecret n f → weight n.degree (entries f) ≤ n.weight
secret_light n f h = omega (arith, weight_counts n.degree (entries f) h.ternary, h.light)

-- a selector of a congruent message
pub selector_alike : (Q N P B d E : ℕ) (f m m' : Poly) (p : ℕ → Poly) → Alike Q N m m' → Selector Q N P B d E f m p → Selector Q N P B d E f m' p
selector_alike Q N P B d E f m m' p h key i l k b =
    near_to Q (key i l k b) (cong_scale Q (gadget P B i) (mul_alike Q N m m' f f h (λ j c. cong_refl Q (f j)) k b))

-- of a constant that is a bit
constant_bit : (n : Numbers) (z : ℤ) (b : ℕ) → 0 < n.modulus → z ≡ pos b → Alike n.modulus n.degree (coeffs (constant n z)) (bit b)
unfolding constant
constant_bit n z b some e k l =
    cong_trans n.modulus (words_alike n.degree n.modulus (scale z one) some k l)
    (same n.modulus _ _ (ap (λ (x : ℤ). x *ℤ one k) e))

pub constant_poly : (w : Within) (z : ℤ) → IsPoly w.numbers.degree w.numbers.modulus (constant w.numbers z)
unfolding constant
constant_poly w z =
    let N = w.numbers.degree in
    let Q = w.numbers.modulus in
    (words_long N Q (scale z one), λ k l. words_below N Q (scale z one) (some_modulus w) k (omega (arith, words_long N Q (scale z one))))

-- the bits of the small secret
bit_of : List ℤ → ℕ → ℕ
bit_of s j = unsigned_abs (entries s j)

bit_is : (n : Numbers) (s : List ℤ) → SmallSecret n s → (j : ℕ) → j < n.dimension → entries s j ≡ pos (bit_of s j)
unfolding bit_of
bit_is n s h j l = elim (h.bits j l) [ inl e ↦ rw e refl | inr e ↦ rw e refl ]

bit_small : (n : Numbers) (s : List ℤ) → SmallSecret n s → (j : ℕ) → j < n.dimension → bit_of s j ≤ 1
unfolding bit_of
bit_small n s h j l = elim (h.bits j l) [ inl e ↦ rw e (omega arith) | inr e ↦ rw e (omega arith) ]

-- the sum of all turns
total_front : (n : ℕ) (e : ℕ → ℕ) → total (suc n) e ≡ e 0 + total n (λ j. e (suc j))
unfolding total
total_front zero e = omega arith
total_front (suc n) e = let h = total_front n e in omega arith

turn_at : (q u e : ℕ) (z : ℤ) → z ≡ pos (unsigned_abs z) → u * e * unsigned_abs z ≡ u * turn_by q e z
turn_at q u e (pos k) h = mul_assoc u e k
turn_at q u e (negsuc k) h = absurd (omega (arith, ints))

turn_total : (q u : ℕ) (es : List ℕ) (s : List ℤ) → length es ≡ length s → ((j : ℕ) → j < length s → entries s j ≡ pos (unsigned_abs (entries s j)))
    → total (length es) (λ j. u * slice_index es j * unsigned_abs (entries s j)) ≡ u * turn_sum q es s
unfolding total turn_sum
turn_total q u [] s e h = sym (mul-zero u)
turn_total q u (x ∷ es) [] e h = absurd (omega arith)
turn_total q u (x ∷ es) (z ∷ s) e h =
    total_front (length es) (λ j. u * slice_index (x ∷ es) j * unsigned_abs (entries (z ∷ s) j))
    ∙ ap (λ (m : ℕ). m + total (length es) (λ j. u * slice_index es j * unsigned_abs (entries s j))) (turn_at q u x z (h 0 (omega arith)))
    ∙ ap (λ (m : ℕ). u * turn_by q x z + m) (turn_total q u es s (omega arith) (λ j l. h (suc j) (omega arith)))
    ∙ sym (mul-add u (turn_by q x z) (turn_sum q es s))

turned_total : (n : Numbers) (es : List ℕ) (s : List ℤ) → length es ≡ n.dimension → SmallSecret n s
    → total n.dimension (λ j. turns n (slice_index es j) * bit_of s j) ≡ turns n (turn_sum n.small es s)
unfolding bit_of
turned_total n es s e h =
    ap (λ (m : ℕ). total m (λ j. turns n (slice_index es j) * unsigned_abs (entries s j))) (sym e)
    ∙ turn_total n.small ((n.degree + n.degree) / n.small) es s (e ∙ sym h.long) (λ j l. bit_is n s h j (omega (arith, h.long)))

-- the steps are those of the law
single_is : (n : Numbers) (es : List ℕ) (keys : List (List ℕ)) (t : ℕ) (acc : List ℕ)
    → singles n.degree n.modulus n.dropped n.base n.digits (key_at n.digits keys) (λ j. turns n (slice_index es j)) t acc
    ≡ single_steps n es keys t acc
unfolding singles single_steps single_step
single_is n es keys zero acc = refl
single_is n es keys (suc t) acc =
    ap (λ (old : List ℕ). words n.degree n.modulus (stepped n.degree (turns n (slice_index es t))
    (external n.degree n.modulus n.dropped n.base n.digits old (key_at n.digits keys t)) (coeffs old)))
    (single_is n es keys t acc)

single_poly : (n : Numbers) (es : List ℕ) (keys : List (List ℕ)) (t : ℕ) (acc : List ℕ) → 0 < n.modulus → IsPoly n.degree n.modulus acc
    → IsPoly n.degree n.modulus (single_steps n es keys t acc)
unfolding single_steps single_step
single_poly n es keys zero acc some h = h
single_poly n es keys (suc t) acc some h =
    let p = stepped n.degree (turns n (slice_index es t)) (taken_by n keys t (single_steps n es keys t acc)) (coeffs (single_steps n es keys t acc)) in
    (words_long n.degree n.modulus p, λ k l. words_below n.degree n.modulus p some k (omega (arith, words_long n.degree n.modulus p)))

pub single_closed : (w : Within) (es : List ℕ) (keys : List (List ℕ)) (acc : List ℕ) → IsPoly w.numbers.degree w.numbers.modulus acc
    → IsPoly w.numbers.degree w.numbers.modulus (single_run w.numbers es keys acc)
unfolding single_run
single_closed w es keys acc h = single_poly w.numbers es keys w.numbers.dimension acc (some_modulus w) h

-- the law of single sweeps
module _ (set : Set) (f s : List ℤ) (es : List ℕ) (keys : List (List ℕ)) (old : List ℕ)
    (long : length es ≡ set.within.numbers.dimension) (poly : IsPoly set.within.numbers.degree set.within.numbers.modulus old)
    (ring : RingSecret set.within.numbers f) (small : SmallSecret set.within.numbers s) where
  pub single_means : FitSelectors set.within.numbers set.within.numbers.dimension (single_message set.within s) f keys
      → Carries set.within.numbers.modulus set.within.numbers.degree (entries f)
      (turns set.within.numbers (turn_sum set.within.numbers.small es s)) (single_noise set.within.numbers)
      (coeffs old) (coeffs (single_run set.within.numbers es keys old))
  unfolding single_run
  single_means fit =
      let n = set.within.numbers in
      let swept = singles_sweep n.modulus n.degree n.dropped n.base n.digits n.noise n.weight (entries f)
      (some_modulus set.within) (set_covers set) (secret_light n f ring) n.dimension (bit_of s) (key_at n.digits keys)
      (bit_small n s small)
      (λ t l. selector_alike n.modulus n.degree n.dropped n.base n.digits n.noise (entries f) _ (bit (bit_of s t)) (key_at n.digits keys t)
      (constant_bit n (entries s t) (bit_of s t) (some_modulus set.within) (bit_is n s small t l)) (fit t l))
      (λ j. turns n (slice_index es j)) old (λ k l. poly.1 k (omega (arith, poly.0))) in
      subst (λ (σ : ℕ). Carries n.modulus n.degree (entries f) σ (single_noise n) (coeffs old) (coeffs (single_steps n es keys n.dimension old)))
      (turned_total n es s long small)
      (subst (λ (x : List ℕ). Carries n.modulus n.degree (entries f) (total n.dimension (λ j. turns n (slice_index es j) * bit_of s j)) (single_noise n) (coeffs old) (coeffs x))
      (single_is n es keys n.dimension old) swept)

-- the same for pairs: the steps, the messages, the noise
pair_is : (n : Numbers) (es : List ℕ) (keys : List (List ℕ)) (t : ℕ) (acc : List ℕ)
    → pairs n.degree n.modulus n.dropped n.base n.digits (λ i. key_at n.digits keys (3 * i))
    (λ i. key_at n.digits keys (3 * i + 1)) (λ i. key_at n.digits keys (3 * i + 2)) (λ j. turns n (slice_index es j)) t acc
    ≡ paired_steps n es keys t acc
unfolding pairs paired_steps paired_step
pair_is n es keys zero acc = refl
pair_is n es keys (suc t) acc =
    ap (λ (old : List ℕ). words n.degree n.modulus (paired n.degree (turns n (slice_index es (2 * t))) (turns n (slice_index es (2 * t + 1)))
    (taken_by n keys (3 * t) old) (taken_by n keys (3 * t + 1) old) (taken_by n keys (3 * t + 2) old) (coeffs old)))
    (pair_is n es keys t acc)

pair_poly : (n : Numbers) (es : List ℕ) (keys : List (List ℕ)) (t : ℕ) (acc : List ℕ) → 0 < n.modulus → IsPoly n.degree n.modulus acc
    → IsPoly n.degree n.modulus (paired_steps n es keys t acc)
unfolding paired_steps paired_step
pair_poly n es keys zero acc some h = h
pair_poly n es keys (suc t) acc some h =
    let old : List ℕ = paired_steps n es keys t acc in
    let p : Poly = paired n.degree (turns n (slice_index es (2 * t))) (turns n (slice_index es (2 * t + 1)))
    (taken_by n keys (3 * t) old) (taken_by n keys (3 * t + 1) old) (taken_by n keys (3 * t + 2) old) (coeffs old) in
    (words_long n.degree n.modulus p, λ k l. words_below n.degree n.modulus p some k (omega (arith, words_long n.degree n.modulus p)))

pub paired_closed : (w : Within) (es : List ℕ) (keys : List (List ℕ)) (acc : List ℕ) → IsPoly w.numbers.degree w.numbers.modulus acc
    → IsPoly w.numbers.degree w.numbers.modulus (paired_run w.numbers es keys acc)
unfolding paired_run
paired_closed w es keys acc h = pair_poly w.numbers es keys (w.numbers.dimension / 2) acc (some_modulus w) h

both_ones : (a b : ℤ) (x y : ℕ) → a ≡ pos x → b ≡ pos y → pair_part 0 a b ≡ pos (x * y)
both_ones a b x y e f = rw (e, f) refl

first_only : (a b : ℤ) (x y : ℕ) → a ≡ pos x → b ≡ pos y → y ≤ 1 → pair_part 1 a b ≡ pos (x * (1 - y))
first_only a b x y e f h = rw (e, f) (ap (λ (z : ℤ). pos x *ℤ z) (less y h))
  where
    less : (y : ℕ) → y ≤ 1 → pos 1 -ℤ pos y ≡ pos (1 - y)
    less y h = omega (arith, ints)

second_only : (a b : ℤ) (x y : ℕ) → a ≡ pos x → b ≡ pos y → x ≤ 1 → pair_part 2 a b ≡ pos (y * (1 - x))
second_only a b x y e f h = first_only b a y x f e h

pair_message : (w : Within) (s : List ℤ) (j t r : ℕ) → j % 3 ≡ r → j / 3 ≡ t
    → paired_message w s j ≡ constant w.numbers (pair_part r (entries s (2 * t)) (entries s (2 * t + 1)))
pair_message w s j t r e f = rw (e, f) refl

paired_noise_lem : (h N d B E G F : ℕ) → h * (3 * N * d * B * E + 2 * G * F) ≡ h * (3 * (N * d * B * E) + 2 * G * F)
paired_noise_lem h N d B E G F = ap (λ (x : ℕ). h * (x + 2 * G * F)) (simp mul_assoc)

-- the law of paired sweeps
module _ (set : Set) (f s : List ℤ) (es : List ℕ) (keys : List (List ℕ)) (old : List ℕ)
    (long : length es ≡ set.within.numbers.dimension) (poly : IsPoly set.within.numbers.degree set.within.numbers.modulus old)
    (ring : RingSecret set.within.numbers f) (small : SmallSecret set.within.numbers s)
    (fit : FitSelectors set.within.numbers (3 * (set.within.numbers.dimension / 2)) (paired_message set.within s) f keys) where
  -- selector 3t + r is one of the bit that its message is
  part_fits : (j t r b : ℕ) → j % 3 ≡ r → j / 3 ≡ t → j < 3 * (set.within.numbers.dimension / 2)
      → pair_part r (entries s (2 * t)) (entries s (2 * t + 1)) ≡ pos b
      → Selector set.within.numbers.modulus set.within.numbers.degree set.within.numbers.dropped set.within.numbers.base
      set.within.numbers.digits set.within.numbers.noise (entries f) (bit b) (key_at set.within.numbers.digits keys j)
  part_fits j t r b e g l h =
      let n = set.within.numbers in
      selector_alike n.modulus n.degree n.dropped n.base n.digits n.noise (entries f) (coeffs (paired_message set.within s j)) (bit b)
      (key_at n.digits keys j)
      (subst (λ (x : List ℕ). Alike n.modulus n.degree (coeffs x) (bit b)) (sym (pair_message set.within s j t r e g))
      (constant_bit n (pair_part r (entries s (2 * t)) (entries s (2 * t + 1))) b (some_modulus set.within) h))
      (fit j l)

  even : 2 * (set.within.numbers.dimension / 2) ≡ set.within.numbers.dimension
  even = omega (arith, set.within.secrets)

  at : (j : ℕ) → j < 2 * (set.within.numbers.dimension / 2) → entries s j ≡ pos (bit_of s j)
  at j l = bit_is set.within.numbers s small j (omega (arith, even))

  low : (j : ℕ) → j < 2 * (set.within.numbers.dimension / 2) → bit_of s j ≤ 1
  low j l = bit_small set.within.numbers s small j (omega (arith, even))

  pub paired_means : Carries set.within.numbers.modulus set.within.numbers.degree (entries f)
      (turns set.within.numbers (turn_sum set.within.numbers.small es s)) (paired_noise set.within.numbers)
      (coeffs old) (coeffs (paired_run set.within.numbers es keys old))
  unfolding paired_run
  paired_means =
      let n = set.within.numbers in
      let Q = n.modulus in
      let N = n.degree in
      let e : ℕ → ℕ = (λ j. turns n (slice_index es j)) in
      let swept = pairs_sweep Q N n.dropped n.base n.digits n.noise n.weight (entries f)
      (some_modulus set.within) (set_covers set) (secret_light n f ring) (n.dimension / 2) (bit_of s)
      (λ i. key_at n.digits keys (3 * i)) (λ i. key_at n.digits keys (3 * i + 1)) (λ i. key_at n.digits keys (3 * i + 2)) low
      (λ t l. part_fits (3 * t) t 0 (bit_of s (2 * t) * bit_of s (2 * t + 1)) (omega arith) (omega arith) (omega arith)
      (both_ones _ _ _ _ (at (2 * t) (omega arith)) (at (2 * t + 1) (omega arith))))
      (λ t l. part_fits (3 * t + 1) t 1 (bit_of s (2 * t) * (1 - bit_of s (2 * t + 1))) (omega arith) (omega arith) (omega arith)
      (first_only _ _ (bit_of s (2 * t)) (bit_of s (2 * t + 1)) (at (2 * t) (omega arith)) (at (2 * t + 1) (omega arith)) (low (2 * t + 1) (omega arith))))
      (λ t l. part_fits (3 * t + 2) t 2 (bit_of s (2 * t + 1) * (1 - bit_of s (2 * t))) (omega arith) (omega arith) (omega arith)
      (second_only _ _ (bit_of s (2 * t)) (bit_of s (2 * t + 1)) (at (2 * t) (omega arith)) (at (2 * t + 1) (omega arith)) (low (2 * t) (omega arith))))
      e old (λ k l. poly.1 k (omega (arith, poly.0))) in
      let run : List ℕ = paired_steps n es keys (n.dimension / 2) old in
      subst (λ (σ : ℕ). Carries Q N (entries f) σ (paired_noise n) (coeffs old) (coeffs run)) (turned_total n es s long small)
      (subst (λ (m : ℕ). Carries Q N (entries f) (total m (λ j. e j * bit_of s j)) (paired_noise n) (coeffs old) (coeffs run)) even
      (subst (λ (V : ℕ). Carries Q N (entries f) (total (2 * (n.dimension / 2)) (λ j. e j * bit_of s j)) V (coeffs old) (coeffs run))
      (paired_noise_lem (n.dimension / 2) N n.digits n.base n.noise (n.dropped / 2) n.weight)
      (subst (λ (x : List ℕ). Carries Q N (entries f) (total (2 * (n.dimension / 2)) (λ j. e j * bit_of s j))
      (n.dimension / 2 * Rattle.algebra.specs.Sweeps.paired_noise N n.digits n.base n.noise (n.dropped / 2) n.weight) (coeffs old) (coeffs x))
      (pair_is n es keys (n.dimension / 2) old) swept)))
