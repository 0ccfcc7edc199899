-- (X^j - 1) T added to an accumulator.
use Rattle.std.proofs.Common.{◌≡◌, ℕ, ◌+◌, ◌-◌, ◌%◌, ◌<◌, ◌≤◌, Bool, true, false, not, List, length, take, drop, ◌++◌, get_or, ℤ, pos, ◌+ℤ◌, ◌-ℤ◌, neg_ℤ, sym, refl, ap, ◌∙◌, inl, inr, mod-lt, arith}
use Rattle.std.proofs.lemmas.Int.{ints}
use Rattle.std.proofs.lemmas.List.{get_or_append_left, get_or-append_right, get_or-take, get_or-drop, length-append, length-take-le, length-drop}
use Rattle.std.proofs.lemmas.Bool.{cases_lt, lt-ltb, le-ltb}
use Rattle.algebra.specs.Ints.{Cong}
use Rattle.algebra.specs.Polys.{Poly, Alike, power}
use Rattle.algebra.specs.Sweeps.{turned, stepped, paired}
use Rattle.algebra.specs.Words.{coeffs, word_of, words}
use Rattle.algebra.proofs.Cong.{same, cong_refl, cong_neg, cong_trans, cong_add}
use Rattle.algebra.proofs.Bridge.{mod_cong, word_is}
use Rattle.algebra.proofs.Norms.{power_alike}
use Rattle.algebra.proofs.Powers.{power_wrapped, power_upper, power_agree}
use Rattle.algebra.proofs.Words.{words_same, words_alike}
use Rattle.sweeps.specs.Mixing.{turned_if, mixed, mixed_poly, MixedEach}
use Rattle.sweeps.proofs.Filled.{words_fill, words_each}

-- one word
pub mix_word : (Q a m s added : ℕ) (back : Bool) → 0 < Q → s < Q → Cong Q (pos added) (turned_if back (pos m))
    → ((a + added) % Q + (Q - s)) % Q ≡ mixed Q back a m s
mix_word Q a m s added back some l c =
    word_is Q _ _ (mod-lt _ some)
    (cong_trans Q (mod_cong Q ((a + added) % Q + (Q - s)))
    (cong_trans Q (cong_add Q (mod_cong Q (a + added)) (less s l))
    (cong_trans Q (same Q _ _ (group (pos a) (pos added) (neg_ℤ (pos s))))
    (cong_add Q (cong_refl Q (pos a)) (cong_add Q c (cong_refl Q (neg_ℤ (pos s))))))))
  where
    less : (s : ℕ) → s < Q → Cong Q (pos (Q - s)) (neg_ℤ (pos s))
    less s l = record { times = pos 1; is = omega (arith, ints) }

    group : (x y z : ℤ) → x +ℤ y +ℤ z ≡ x +ℤ (y +ℤ z)
    group x y z = omega (arith, ints)

pub added_back : (Q m : ℕ) → m < Q → Cong Q (pos (Q - m)) (neg_ℤ (pos m))
added_back Q m l = record { times = pos 1; is = omega (arith, ints) }

-- both parts make the words of the whole
turn_not : (b : Bool) (z : ℤ) → turned_if (not b) z ≡ turned_if b (neg_ℤ z)
turn_not true z = omega (arith, ints)
turn_not false z = refl

pub mix_whole : (Q j : ℕ) (back : Bool) (sum acc low high : List ℕ) → length sum ≡ length acc → j ≤ length acc
    → length low ≡ j → length high + j ≡ length acc
    → MixedEach Q (not back) (drop (length sum - j) sum) (take j sum) (take j acc) low
    → MixedEach Q back (take (length sum - j) sum) (drop j sum) (drop j acc) high
    → low ++ high ≡ words (length acc) Q (mixed_poly (length acc) back j sum acc)
mix_whole Q j back sum acc low high ls lj ll lh first second =
    words_fill (length acc) Q (mixed_poly (length acc) back j sum acc) (low ++ high) (length-append low high ∙ omega arith) (λ k l. elim (cases_lt k j) [
      | inl b ↦ rw (lt-ltb k j b)
          (get_or_append_left low high 0 k (omega arith)
          ∙ first k (omega (arith, length-take-le j acc lj))
          ∙ each (not back) (get_or-take j acc k 0 b) (get_or-drop (length sum - j) sum k 0) (get_or-take j sum k 0 b)
          ∙ ap (λ (z : ℤ). word_of Q (coeffs acc k +ℤ (z -ℤ coeffs sum k)))
          (turn_not back (coeffs sum (length sum - j + k))
          ∙ ap (λ (n : ℕ). turned_if back (neg_ℤ (coeffs sum n))) {x = length sum - j + k} {y = length acc + k - j} (omega arith)))
      | inr a ↦ rw (le-ltb k j a)
          (get_or-append_right low high j k 0 ll a
          ∙ second (k - j) (omega (arith, length-drop j acc))
          ∙ each back (get_or-drop j acc (k - j) 0 ∙ back_at acc k a) (get_or-take (length sum - j) sum (k - j) 0 (omega arith)) (get_or-drop j sum (k - j) 0 ∙ back_at sum k a))
    ])
  where
    each : (s : Bool) {a b m n x y : ℕ} → a ≡ b → m ≡ n → x ≡ y → mixed Q s a m x ≡ mixed Q s b n y
    each s e f g = rw (e, f, g) refl

    back_at : (xs : List ℕ) (k : ℕ) → j ≤ k → get_or xs (j + (k - j)) 0 ≡ get_or xs k 0
    back_at xs k h = ap (λ (n : ℕ). get_or xs n 0) {x = j + (k - j)} {y = k} (omega arith)

-- turns below N, and from N on
pub mixed_under : (N Q t : ℕ) (sum acc : List ℕ) → t ≤ N → words N Q (mixed_poly N false t sum acc) ≡ words N Q (stepped N t (coeffs sum) (coeffs acc))
mixed_under N Q t sum acc h =
    words_each N Q _ _ (λ k l. ap (λ (z : ℤ). coeffs acc k +ℤ (z -ℤ coeffs sum k)) (sym (power_wrapped N t (coeffs sum) h k l)))

pub mixed_over : (N Q t : ℕ) (sum acc : List ℕ) → N ≤ t → t < N + N → words N Q (mixed_poly N true (t - N) sum acc) ≡ words N Q (stepped N t (coeffs sum) (coeffs acc))
mixed_over N Q t sum acc h b =
    words_each N Q _ _ (λ k l. ap (λ (z : ℤ). coeffs acc k +ℤ (z -ℤ coeffs sum k))
    (sym (power_upper N (t - N) (coeffs sum) (omega arith) k l) ∙ ap (λ (n : ℕ). power N n (coeffs sum) k) {x = N + (t - N)} {y = t} (omega arith)))

-- the same turn modulo 2N, and congruent polynomials
pub stepped_agree : (N Q i j : ℕ) (T acc : Poly) → i % (N + N) ≡ j % (N + N) → words N Q (stepped N i T acc) ≡ words N Q (stepped N j T acc)
stepped_agree N Q i j T acc e =
    words_each N Q _ _ (λ k l. ap (λ (z : ℤ). acc k +ℤ (z -ℤ T k)) (power_agree N i j T e k l))

pub stepped_alike : (N Q j : ℕ) (T U acc : Poly) → 0 < Q → Alike Q N T U → words N Q (stepped N j T acc) ≡ words N Q (stepped N j U acc)
stepped_alike N Q j T U acc some h =
    words_same N Q _ _ some (λ k l. cong_add Q (cong_refl Q (acc k)) (cong_add Q (power_alike Q N j T U h k l) (cong_neg Q (h k l))))

-- with T as words
pub stepped_words : (N Q j : ℕ) (T : Poly) (sum : List ℕ) (acc : Poly) → 0 < Q → sum ≡ words N Q T
    → words N Q (stepped N j (coeffs sum) acc) ≡ words N Q (stepped N j T acc)
stepped_words N Q j T sum acc some e =
    stepped_alike N Q j (coeffs sum) T acc some (λ k l. rw e (words_alike N Q T some k l))

-- three parts added one after the other are a paired step
pub paired_words : (N Q a b ab : ℕ) (T U W old : Poly) (x y z : List ℕ) → 0 < Q → ab ≡ a + b
    → x ≡ words N Q (stepped N ab T old) → y ≡ words N Q (stepped N a U (coeffs x)) → z ≡ words N Q (stepped N b W (coeffs y))
    → z ≡ words N Q (paired N a b T U W old)
paired_words N Q a b ab T U W old x y z some e ex ey ez =
    ez ∙ words_same N Q _ _ some (λ k l.
    let first : Cong Q (coeffs x k) (old k +ℤ turned N (a + b) T k) =
    cong_trans Q (same Q _ _ (ap (λ (w : List ℕ). coeffs w k) ex))
    (cong_trans Q (words_alike N Q (stepped N ab T old) some k l) (same Q _ _ (ap (λ (i : ℕ). old k +ℤ turned N i T k) e))) in
    let second : Cong Q (coeffs y k) (old k +ℤ turned N (a + b) T k +ℤ turned N a U k) =
    cong_trans Q (same Q _ _ (ap (λ (w : List ℕ). coeffs w k) ey))
    (cong_trans Q (words_alike N Q (stepped N a U (coeffs x)) some k l) (cong_add Q first (cong_refl Q (turned N a U k)))) in
    cong_trans Q (cong_add Q second (cong_refl Q (turned N b W k)))
    (same Q _ _ (group (old k) (turned N (a + b) T k) (turned N a U k) (turned N b W k))))
  where
    group : (o t u w : ℤ) → o +ℤ t +ℤ u +ℤ w ≡ o +ℤ (t +ℤ (u +ℤ w))
    group o t u w = omega (arith, ints)
