-- The six bit gates: where the combined phase lies says what the gate answers.
use Rattle.std.proofs.Common.{◌≡◌, ℕ, zero, suc, ◌+◌, ◌-◌, ◌*◌, ◌/◌, ◌%◌, ◌<◌, ◌≤◌, cond, eqb, ◌⊎◌, List, [], ◌∷◌, get_or, ℤ, pos, negsuc, ◌+ℤ◌, ◌-ℤ◌, ◌*ℤ◌, neg_ℤ, nat_abs, sym, refl, ap, ◌∙◌, subst, ap₂, inl, inr, mod-lt, mod-eq_of_lt, mul_comm, mul-le-mul_left, div-add-mod', arith}
use native.Mathlib.Decide.{dec_lt}
use native.Mathlib.Nat.{mul-add-mod_self_right, mul-lt-mul_of_pos_left}
use borrow.Author.Differences.{ints}
use Rattle.algebra.proofs.Solve.{ring, forms}
use Rattle.algebra.proofs.Sums.{sum_same}
use Rattle.algebra.proofs.Cong.{same, cong_refl, cong_trans, cong_add, cong_neg, cong_scale}
use Rattle.algebra.proofs.Bridge.{mod_cong}
use Rattle.algebra.proofs.Words.{words_alike}
use Rattle.algebra.proofs.Phases.{phase_alike, phase_plus, phase_neg, phase_scale, phase_last}
use Rattle.algebra.proofs.Test.{inside_before, inside_between, inside_after}
use Rattle.algebra.specs.Ints.{sum_z, Cong}
use Rattle.algebra.specs.Polys.{plus, scale}
use Rattle.algebra.specs.Words.{coeffs}
use Rattle.algebra.specs.Sweeps.{total}
use Rattle.algebra.specs.Gates.{inside, side, phase, Holds, combine, Letter, outcome, exponent}

-- the phase under a secret of bits, as a number
sum_total : (n : ℕ) (e : ℕ → ℕ) → pos (total n e) ≡ sum_z n (λ j. pos (e j))
unfolding total sum_z
sum_total zero e = refl
sum_total (suc n) e = ap (λ (x : ℤ). x +ℤ pos (e n)) (sum_total n e)

pub exponent_phase : (n : ℕ) (s : ℕ → ℕ) (xs : List ℕ) → pos (exponent n s xs) ≡ phase n (λ j. pos (s j)) (coeffs xs)
exponent_phase n s xs =
    ap (λ (x : ℤ). pos (get_or xs n 0) +ℤ x)
    (sum_total n (λ j. get_or xs j 0 * s j) ∙ sum_same n _ _ (λ j l. ap pos (mul_comm (get_or xs j 0) (s j))))

-- the phase of combined words
pub combine_phase : (n q o t : ℕ) (s : ℕ → ℤ) (xs ys : List ℕ) → 0 < q
    → Cong q (phase n s (coeffs (combine n q o t xs ys)))
    (pos (o * (q / 8)) -ℤ pos t *ℤ (phase n s (coeffs xs) +ℤ phase n s (coeffs ys)))
unfolding combine
combine_phase n q o t s xs ys some =
    let b : ℕ → ℤ = λ j. cond (eqb j n) (pos (o * (q / 8))) (pos 0) in
    let c : ℕ → ℤ = scale (pos t) (plus (coeffs xs) (coeffs ys)) in
    cong_trans q (phase_alike n s q _ (plus b (λ j. neg_ℤ (c j))) (words_alike (suc n) q (plus b (λ j. neg_ℤ (c j))) some))
    (same q _ _ (phase_plus n s b (λ j. neg_ℤ (c j))
    ∙ ap₂ ◌+ℤ◌ (phase_last n s (pos (o * (q / 8))))
    (phase_neg n s c ∙ ap neg_ℤ (phase_scale n s (pos t) (plus (coeffs xs) (coeffs ys))
    ∙ ap (λ (x : ℤ). pos t *ℤ x) (phase_plus n s (coeffs xs) (coeffs ys))))))

-- a number on the circle of 16 g places: near a place that is not near 0, and near 0
near_place : (g r a b : ℕ) (ε τ : ℤ) → r < 16 * g → pos r ≡ pos a +ℤ ε +ℤ pos (16 * g) *ℤ τ
    → nat_abs ε < b → b ≤ a → a + b ≤ 16 * g → pos r ≡ pos a +ℤ ε
near_place g r a b ε (pos zero) l e h u v = e ∙ omega (arith, ints)
near_place g r a b ε (pos (suc t)) l e h u v = absurd (omega (arith, ints))
near_place g r a b ε (negsuc t) l e h u v = absurd (omega (arith, ints))

near_zero : (g r : ℕ) (ε τ : ℤ) → r < 16 * g → pos r ≡ ε +ℤ pos (16 * g) *ℤ τ → nat_abs ε < 4 * g → (r < 4 * g) ⊎ (12 * g ≤ r)
near_zero g r ε (pos zero) l e h = inl (omega (arith, ints))
near_zero g r ε (pos (suc zero)) l e h = inr (omega (arith, ints))
near_zero g r ε (pos (suc (suc t))) l e h = absurd (omega (arith, ints))
near_zero g r ε (negsuc t) l e h = absurd (omega (arith, ints))

module _ (g r c : ℕ) (ε τ : ℤ) (some : 0 < g) (below : r < 16 * g) (is : pos r ≡ pos (2 * g * c) +ℤ ε +ℤ pos (16 * g) *ℤ τ) where
  -- near an odd eighth c, with a noise below an eighth
  odd_half : c < 8 → c % 2 ≡ 1 → nat_abs ε < 2 * g → inside (4 * g) (12 * g) r ≡ inside 2 6 c
  odd_half k o h =
      let low : 2 * g * 1 ≤ 2 * g * c = mul-le-mul_left (2 * g) (omega arith) in
      let high : 2 * g * c ≤ 2 * g * 7 = mul-le-mul_left (2 * g) (omega arith) in
      let p : pos r ≡ pos (2 * g * c) +ℤ ε = near_place g r (2 * g * c) (2 * g) ε τ below is h (omega arith) (omega arith) in
      elim (dec_lt c 2) [
        | yes a ↦
            let m : 2 * g * c ≤ 2 * g * 1 = mul-le-mul_left (2 * g) (omega arith) in
            inside_before (4 * g) (12 * g) r (omega (arith, ints)) ∙ sym (inside_before 2 6 c a)
        | no n ↦
            let m : 2 * g * 3 ≤ 2 * g * c = mul-le-mul_left (2 * g) (omega (arith, n)) in
            elim (dec_lt c 6) [
              | yes a ↦
                  let i : 2 * g * c ≤ 2 * g * 5 = mul-le-mul_left (2 * g) (omega arith) in
                  inside_between (4 * g) (12 * g) r (omega (arith, ints)) (omega (arith, ints))
                  ∙ sym (inside_between 2 6 c (omega (arith, n)) a)
              | no b ↦
                  let i : 2 * g * 7 ≤ 2 * g * c = mul-le-mul_left (2 * g) (omega (arith, b)) in
                  inside_after (4 * g) (12 * g) r (omega (arith, ints)) (omega (arith, ints))
                  ∙ sym (inside_after 2 6 c (omega (arith, n)) (omega (arith, b)))
            ]
      ]

  -- near no eighth or four of them, with a noise below a quarter
  four_half : c < 8 → c % 4 ≡ 0 → nat_abs ε < 4 * g → inside (4 * g) (12 * g) r ≡ inside 2 6 c
  four_half k o h = elim (dec_lt c 2) [
    | yes a ↦
        let z : 2 * g * c ≡ 2 * g * 0 = ap (λ (x : ℕ). 2 * g * x) (omega arith) in
        let e : pos r ≡ ε +ℤ pos (16 * g) *ℤ τ = is ∙ none (2 * g * c) ε (pos (16 * g) *ℤ τ) (omega arith) in
        elim (near_zero g r ε τ below e h) [
          | inl b ↦ inside_before (4 * g) (12 * g) r b
          | inr b ↦ inside_after (4 * g) (12 * g) r (omega arith) b
        ]
        ∙ sym (inside_before 2 6 c a)
    | no n ↦
        let f : 2 * g * c ≡ 2 * g * 4 = ap (λ (x : ℕ). 2 * g * x) (omega (arith, n)) in
        let p : pos r ≡ pos (2 * g * c) +ℤ ε = near_place g r (2 * g * c) (4 * g) ε τ below is h (omega arith) (omega arith) in
        inside_between (4 * g) (12 * g) r (omega (arith, ints)) (omega (arith, ints))
        ∙ sym (inside_between 2 6 c (omega (arith, n)) (omega (arith, n)))
  ]
    where
      none : (z : ℕ) (x y : ℤ) → z ≡ 0 → pos z +ℤ x +ℤ y ≡ x +ℤ y
      none z x y e = omega (arith, ints)

-- what is combined from bits a and b with noises x and y, for e an eighth of q and f a quarter
abbrev meant : ℕ → ℕ → ℕ → ℕ → ℤ → ℤ → ℕ → ℕ → ℤ
meant o t a b x y e f = pos (o * e) -ℤ pos t *ℤ ((pos (a * f) +ℤ x) +ℤ (pos (b * f) +ℤ y))

-- it is near a number of eighths
eighths : (g o t a b : ℕ) (x y : ℤ) → 2 * (t * (a + b)) ≤ o + 16
    → Cong (16 * g) (meant o t a b x y (2 * g) (4 * g))
    (pos (2 * g * ((o + 16 - 2 * (t * (a + b))) % 8)) +ℤ neg_ℤ (pos t *ℤ (x +ℤ y)))
eighths g o t a b x y enough =
    let X : ℕ = o + 16 - 2 * (t * (a + b)) in
    let d : X / 8 * 8 + X % 8 ≡ X = div-add-mod' X 8 in
    let h : o + 16 ≡ 2 * (t * (a + b)) + (X / 8 * 8 + X % 8) = omega arith in
    let m : 2 * g * (o + 16) ≡ 2 * g * (2 * (t * (a + b)) + (X / 8 * 8 + X % 8)) = ap (λ (i : ℕ). 2 * g * i) h in
    let e : t * (a * (4 * g) + b * (4 * g)) ≡ 4 * g * (t * (a + b)) = omega arith in
    record {
      times = pos (X / 8) -ℤ pos 2;
      is = opened (pos (o * (2 * g))) (pos t) (pos (a * (4 * g))) (pos (b * (4 * g))) x y
          ∙ ap (λ (i : ℤ). i +ℤ neg_ℤ (pos t *ℤ (x +ℤ y)))
          (counted (o * (2 * g)) (t * (a * (4 * g) + b * (4 * g))) (2 * g * (X % 8)) (16 * g) (X / 8) (omega arith))
          ∙ order (pos (2 * g * (X % 8))) (pos (16 * g) *ℤ (pos (X / 8) -ℤ pos 2)) (neg_ℤ (pos t *ℤ (x +ℤ y)));
    }
  where
    opened : (p t a b x y : ℤ) → p -ℤ t *ℤ ((a +ℤ x) +ℤ (b +ℤ y)) ≡ p -ℤ t *ℤ (a +ℤ b) +ℤ neg_ℤ (t *ℤ (x +ℤ y))
    opened p t a b x y = ring (p ∷ t ∷ a ∷ b ∷ x ∷ y ∷ []) (search forms depth 12) (search forms depth 12) refl

    counted : (u v w q d : ℕ) → u + 2 * q ≡ v + w + q * d → pos u -ℤ pos v ≡ pos w +ℤ pos q *ℤ (pos d -ℤ pos 2)
    counted u v w q d h = omega (arith, ints, spread (pos q) (pos d))
      where
        spread : (q d : ℤ) → q *ℤ (d -ℤ pos 2) ≡ q *ℤ d -ℤ pos 2 *ℤ q
        spread q d = ring (q ∷ d ∷ []) (search forms depth 9) (search forms depth 9) refl

    order : (x y z : ℤ) → x +ℤ y +ℤ z ≡ x +ℤ z +ℤ y
    order x y z = omega (arith, ints)

-- so its half of the circle is the gate's answer
module _ (g φ o a b : ℕ) (x y : ℤ) (some : 0 < g) (o-below : o < 8) (ha : a ≤ 1) (hb : b ≤ 1) (hx : nat_abs x < g) (hy : nat_abs y < g) where
  near : (t : ℕ) → 2 * (t * (a + b)) ≤ o + 16 → Cong (16 * g) (pos φ) (meant o t a b x y (2 * g) (4 * g))
      → Cong (16 * g) (pos (φ % (16 * g))) (pos (2 * g * ((o + 16 - 2 * (t * (a + b))) % 8)) +ℤ neg_ℤ (pos t *ℤ (x +ℤ y)))
  near t l h = cong_trans (16 * g) (mod_cong (16 * g) φ) (cong_trans (16 * g) h (eighths g o t a b x y l))

  odd_outcome : o % 2 ≡ 1 → Cong (16 * g) (pos φ) (meant o 1 a b x y (2 * g) (4 * g))
      → inside (4 * g) (12 * g) (φ % (16 * g)) ≡ outcome o 1 a b
  odd_outcome odd h =
      let c = near 1 (omega arith) h in
      odd_half g (φ % (16 * g)) ((o + 16 - 2 * (1 * (a + b))) % 8) (neg_ℤ (pos 1 *ℤ (x +ℤ y))) c.times some
      (mod-lt φ (omega arith)) c.is (omega arith) (omega arith) (omega (arith, ints))

  four_outcome : o % 4 ≡ 0 → Cong (16 * g) (pos φ) (meant o 2 a b x y (2 * g) (4 * g))
      → inside (4 * g) (12 * g) (φ % (16 * g)) ≡ outcome o 2 a b
  four_outcome even h =
      let c = near 2 (omega arith) h in
      four_half g (φ % (16 * g)) ((o + 16 - 2 * (2 * (a + b))) % 8) (neg_ℤ (pos 2 *ℤ (x +ℤ y))) c.times some
      (mod-lt φ (omega arith)) c.is (omega arith) (omega arith) (omega (arith, ints))

  letter_outcome : (t : ℕ) → Letter o t → Cong (16 * g) (pos φ) (meant o t a b x y (2 * g) (4 * g))
      → inside (4 * g) (12 * g) (φ % (16 * g)) ≡ outcome o t a b
  letter_outcome t letter =
      let P : ℕ → Type 0 = λ t.
      Cong (16 * g) (pos φ) (meant o t a b x y (2 * g) (4 * g)) → inside (4 * g) (12 * g) (φ % (16 * g)) ≡ outcome o t a b in
      elim letter.1 [
        | inl w ↦ subst P (sym w.0) (odd_outcome w.1)
        | inr w ↦ subst P (sym w.0) (four_outcome w.1)
      ]

-- the circle of exponents of X is u times as long as that of phases
scaled_mod : (u q φ : ℕ) → 0 < u → 0 < q → u * φ % (u * q) ≡ u * (φ % q)
scaled_mod u q φ hu hq =
    let e : φ / q * q + φ % q ≡ φ = div-add-mod' φ q in
    let l : φ % q < q = mod-lt φ hq in
    let s : u * φ ≡ φ / q * (u * q) + u * (φ % q) = ap (λ (x : ℕ). u * x) (sym e) ∙ omega arith in
    ap (λ (x : ℕ). x % (u * q)) s
    ∙ mul-add-mod_self_right (φ / q) (u * q) (u * (φ % q))
    ∙ mod-eq_of_lt (mul-lt-mul_of_pos_left l hu)

inside_scale : (u low high r : ℕ) → 0 < u → low ≤ high → inside (u * low) (u * high) (u * r) ≡ inside low high r
inside_scale u low high r hu l = elim (dec_lt r low) [
  | yes a ↦ inside_before (u * low) (u * high) (u * r) (mul-lt-mul_of_pos_left a hu) ∙ sym (inside_before low high r a)
  | no n ↦
      let k : low ≤ r = omega (arith, n) in
      elim (dec_lt r high) [
        | yes b ↦ inside_between (u * low) (u * high) (u * r) (mul-le-mul_left u k) (mul-lt-mul_of_pos_left b hu)
            ∙ sym (inside_between low high r k b)
        | no m ↦
            let i : high ≤ r = omega (arith, m) in
            inside_after (u * low) (u * high) (u * r) (mul-le-mul_left u k) (mul-le-mul_left u i) ∙ sym (inside_after low high r k i)
      ]
]

side_scale : (N u g φ : ℕ) → 0 < u → 0 < g → N + N ≡ u * (16 * g) → side N (u * φ) ≡ inside (4 * g) (12 * g) (φ % (16 * g))
side_scale N u g φ hu hg e =
    let m : u * φ % (N + N) ≡ u * (φ % (16 * g)) = ap (λ (x : ℕ). u * φ % x) e ∙ scaled_mod u (16 * g) φ hu (omega arith) in
    let n : N / 2 ≡ u * (4 * g) = omega arith in
    let n' : N + N / 2 ≡ u * (12 * g) = omega arith in
    ap (λ (x : ℕ). inside x (N + N / 2) (u * φ % (N + N))) n
    ∙ ap (λ (x : ℕ). inside (u * (4 * g)) x (u * φ % (N + N))) n'
    ∙ ap (λ (x : ℕ). inside (u * (4 * g)) (u * (12 * g)) x) m
    ∙ inside_scale u (4 * g) (12 * g) (φ % (16 * g)) hu (omega arith)

-- words that hold a and b with noise below a sixteenth of q, combined, lie on the side of the gate's answer
phase_side : (N q u g φ o t a b : ℕ) (x y : ℤ) → 0 < u → 0 < g → N + N ≡ u * q → q ≡ 16 * g → q / 8 ≡ 2 * g → q / 4 ≡ 4 * g
    → Letter o t → a ≤ 1 → b ≤ 1 → nat_abs x < g → nat_abs y < g
    → Cong q (pos φ) (meant o t a b x y (q / 8) (q / 4)) → side N (u * φ) ≡ outcome o t a b
phase_side N q u g φ o t a b x y hu hg circle e e8 e4 letter ha hb hx hy h =
    let h8 : Cong q (pos φ) (meant o t a b x y (2 * g) (q / 4)) = subst (λ (i : ℕ). Cong q (pos φ) (meant o t a b x y i (q / 4))) e8 h in
    let h4 : Cong q (pos φ) (meant o t a b x y (2 * g) (4 * g)) = subst (λ (i : ℕ). Cong q (pos φ) (meant o t a b x y (2 * g) i)) e4 h8 in
    let h16 : Cong (16 * g) (pos φ) (meant o t a b x y (2 * g) (4 * g)) =
    subst (λ (i : ℕ). Cong i (pos φ) (meant o t a b x y (2 * g) (4 * g))) e h4 in
    side_scale N u g φ hu hg (circle ∙ ap (λ (i : ℕ). u * i) e) ∙ letter_outcome g φ o a b x y hg letter.0 ha hb hx hy t letter h16

pub combine_side : (N n q u o t a b : ℕ) (s : ℕ → ℕ) (xs ys : List ℕ)
    → Letter o t → a ≤ 1 → b ≤ 1 → 0 < u → N + N ≡ u * q → 0 < q / 16 → q ≡ 16 * (q / 16)
    → Holds n q (q / 16 - 1) (λ j. pos (s j)) a xs → Holds n q (q / 16 - 1) (λ j. pos (s j)) b ys
    → side N (u * exponent n s (combine n q o t xs ys)) ≡ outcome o t a b
combine_side N n q u o t a b s xs ys letter ha hb hu circle some sixteenth hx hy =
    phase_side N q u (q / 16) (exponent n s (combine n q o t xs ys)) o t a b hx.noise hy.noise hu some circle
    sixteenth (omega arith) (omega arith) letter ha hb (omega (arith, hx.small)) (omega (arith, hy.small))
    (cong_trans q (same q _ _ (exponent_phase n s (combine n q o t xs ys)))
    (cong_trans q (combine_phase n q o t (λ j. pos (s j)) xs ys (omega arith))
    (cong_add q (cong_refl q (pos (o * (q / 8)))) (cong_neg q (cong_scale q (pos t) (cong_add q hx.is hy.is))))))
