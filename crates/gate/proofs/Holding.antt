-- What a gate answers under the secrets, from the law of gates and the meaning of the sweep.
use Rattle.std.proofs.Common.{◌≡◌, ℕ, zero, suc, ◌+◌, ◌*◌, ◌/◌, ◌^◌, ◌<◌, ◌≤◌, Bool, true, false, ◌⊎◌, List, [], ◌∷◌, length, get_or, take, ℤ, pos, ◌+ℤ◌, ◌*ℤ◌, nat_abs, sym, refl, ap, ◌∙◌, subst, ap₂, inl, inr, arith, length-take}
use Rattle.std.proofs.lemmas.List.{get_or-take}
use Rattle.algebra.specs.Polys.{Poly, Alike, power, weight}
use Rattle.algebra.specs.Words.{coeffs, words}
use Rattle.algebra.specs.Near.{Near}
use Rattle.algebra.specs.Sweeps.{Carries, total}
use Rattle.algebra.specs.Gates.{test, beginning, phase, Holds, combine, outcome, switch, refresh, Fits}
use Rattle.algebra.proofs.Sums.{sum_same}
use Rattle.algebra.proofs.Norms.{weight_counts}
use Rattle.algebra.proofs.Words.{words_long, words_below, words_alike}
use Rattle.algebra.proofs.Rounding.{narrow_long, narrow_below}
use Rattle.algebra.proofs.Gate.{total_scale, answer_holds}
use Rattle.kernels.specs.Polynomials.{IsPoly, reduced}
use Rattle.kernels.specs.Reduced.{reduced_same, reduced_poly}
use Rattle.set.specs.declared.numbers.Numbers.{Numbers}
use Rattle.set.specs.declared.within.Within.{Within}
use Rattle.set.specs.declared.checked.Set.{Set}
use Rattle.sweeps.specs.External.{taken_by, taken_words}
use Rattle.sweeps.specs.Fit.{entries, key_at, RingSecret, SmallSecret}
use Rattle.sweeps.specs.Forms.{ArePolys}
use Rattle.sweeps.specs.Meaning.{turns, turn_by, turn_sum, Means}
use Rattle.gate.specs.declared.letter.Letter.{Letter}
use Rattle.gate.specs.Letters.{offset_of, times_of, num_of, bit_of}
use Rattle.gate.specs.Lengths.{words_of}
use Rattle.gate.specs.Stages.{row_at, switch_words, combined_of, extracted_of, narrowed_of, finished_of}
use Rattle.gate.specs.Bits.{HoldsBit, room_of}
use Rattle.gate.specs.Gates.{rotated_of, settled_of, gate_of, KeysFit, GateHolds}
use Rattle.gate.proofs.Bits.{bits_right}
use Rattle.gate.proofs.Sets.{circle, sixteenth, ring_covers, switch_covers, closes}

-- the entries of a small secret as numbers
abbrev pub bits_of : List ℤ → ℕ → ℕ
bits_of s j = nat_abs (entries s j)

pub bit_is : (n : Numbers) (s : List ℤ) → SmallSecret n s → (j : ℕ) → j < n.dimension → entries s j ≡ pos (bits_of s j)
bit_is n s small j l = elim (small.bits j l) [
  | inl e ↦ e ∙ ap (λ (z : ℤ). pos (nat_abs z)) (sym e)
  | inr e ↦ e ∙ ap (λ (z : ℤ). pos (nat_abs z)) (sym e)
]

pub num_bit : (b : Bool) → num_of b ≤ 1
num_bit true = omega arith
num_bit false = omega arith

-- phases under both are the same
pub phase_bits : (n : Numbers) (s : List ℤ) → SmallSecret n s → (c : ℕ → ℤ)
    → phase n.dimension (entries s) c ≡ phase n.dimension (λ j. pos (bits_of s j)) c
phase_bits n s small c =
    ap (λ (x : ℤ). c n.dimension +ℤ x) (sum_same n.dimension _ _ (λ j l. ap (λ (z : ℤ). z *ℤ c j) (bit_is n s small j l)))

pub holds_bits : (n : Numbers) (s : List ℤ) → SmallSecret n s → (V m : ℕ) (xs : List ℕ)
    → Holds n.dimension n.small V (entries s) m xs → Holds n.dimension n.small V (λ j. pos (bits_of s j)) m xs
holds_bits n s small V m xs h = subst (λ (φ : ℤ). Near n.small V φ (pos (m * (n.small / 4)))) (phase_bits n s small (coeffs xs)) h

pub bits_holds : (n : Numbers) (s : List ℤ) → SmallSecret n s → (V m : ℕ) (xs : List ℕ)
    → Holds n.dimension n.small V (λ j. pos (bits_of s j)) m xs → Holds n.dimension n.small V (entries s) m xs
bits_holds n s small V m xs h = subst (λ (φ : ℤ). Near n.small V φ (pos (m * (n.small / 4)))) (sym (phase_bits n s small (coeffs xs))) h

-- the weights
pub ring_light : (n : Numbers) (f : List ℤ) → RingSecret n f → weight n.degree (entries f) ≤ n.weight
ring_light n f ring = subst (λ (x : ℕ). x ≤ n.weight) (sym (weight_counts n.degree (entries f) ring.ternary)) ring.light

pub small_one : (n : Numbers) (s : List ℤ) → SmallSecret n s → (j : ℕ) → j < n.dimension → nat_abs (entries s j) ≤ 1
small_one n s small j l = elim (small.bits j l) [
  | inl e ↦ subst (λ (z : ℤ). nat_abs z ≤ 1) (sym e) (omega arith)
  | inr e ↦ subst (λ (z : ℤ). nat_abs z ≤ 1) (sym e) (omega arith)
]

weight_same : (n : ℕ) (f g : Poly) → ((j : ℕ) → j < n → f j ≡ g j) → weight n f ≡ weight n g
unfolding weight
weight_same zero f g h = refl
weight_same (suc n) f g h = ap₂ ◌+◌ (weight_same n f g (λ j l. h j (omega arith))) (ap nat_abs (h n (omega arith)))

small_light : (n : Numbers) (s : List ℤ) → SmallSecret n s → weight n.dimension (λ j. pos (bits_of s j)) ≤ n.ones
small_light n s small =
    subst (λ (x : ℕ). x ≤ n.ones)
    (sym (weight_counts n.dimension (entries s) (small_one n s small)) ∙ weight_same n.dimension (entries s) (λ j. pos (bits_of s j)) (bit_is n s small))
    small.light

-- the sum of exponents times bits, from the front and from the end
total_front : (n : ℕ) (e : ℕ → ℕ) → total (suc n) e ≡ e 0 + total n (λ j. e (suc j))
unfolding total
total_front zero e = omega arith
total_front (suc n) e = omega (arith, total_front n e)

total_none : (e : ℕ → ℕ) → total 0 e ≡ 0
unfolding total
total_none e = refl

sum_none : (q : ℕ) (s : List ℤ) → turn_sum q [] s ≡ 0
unfolding turn_sum
sum_none q s = refl

sum_next : (q e : ℕ) (es : List ℕ) (z : ℤ) (s : List ℤ) → turn_sum q (e ∷ es) (z ∷ s) ≡ turn_by q e z + turn_sum q es s
unfolding turn_sum
sum_next q e es z s = refl

turn_bit : (q e : ℕ) (z : ℤ) → (z ≡ pos 0) ⊎ (z ≡ pos 1) → turn_by q e z ≡ e * nat_abs z
turn_bit q e z (inl h) = ap (turn_by q e) h ∙ ap (λ (x : ℤ). e * nat_abs x) (sym h)
turn_bit q e z (inr h) = ap (turn_by q e) h ∙ ap (λ (x : ℤ). e * nat_abs x) (sym h)

turn_total : (q : ℕ) (es : List ℕ) (s : List ℤ) → length es ≡ length s
    → ((j : ℕ) → j < length s → (get_or s j (pos 0) ≡ pos 0) ⊎ (get_or s j (pos 0) ≡ pos 1))
    → turn_sum q es s ≡ total (length es) (λ j. get_or es j 0 * nat_abs (get_or s j (pos 0)))
turn_total q [] s e h = sum_none q s ∙ sym (total_none (λ j. get_or [] j 0 * nat_abs (get_or s j (pos 0))))
turn_total q (x ∷ es) [] e h = absurd (omega arith)
turn_total q (x ∷ es) (z ∷ s) e h =
    sum_next q x es z s
    ∙ ap₂ ◌+◌ (turn_bit q x z (h 0 (omega arith))) (turn_total q es s (omega arith) (λ j l. h (suc j) (omega arith)))
    ∙ sym (total_front (length es) (λ j. get_or (x ∷ es) j 0 * nat_abs (get_or (z ∷ s) j (pos 0))))

total_same : (n : ℕ) (d e : ℕ → ℕ) → ((j : ℕ) → j < n → d j ≡ e j) → total n d ≡ total n e
unfolding total
total_same zero d e h = refl
total_same (suc n) d e h = ap₂ ◌+◌ (total_same n d e (λ j l. h j (omega arith))) (h n (omega arith))

-- so the sweep by the words of a ciphertext turns by what the law of gates asks
pub turns_total : (w : Within) (s : List ℤ) → SmallSecret w.numbers s → (zs : List ℕ) → w.numbers.dimension ≤ length zs
    → turns w.numbers (turn_sum w.numbers.small (take w.numbers.dimension zs) s)
    ≡ total w.numbers.dimension (λ j. (w.numbers.degree + w.numbers.degree) / w.numbers.small * get_or zs j 0 * bits_of s j)
turns_total w s small zs long =
    let n : ℕ = w.numbers.dimension in
    let u : ℕ = (w.numbers.degree + w.numbers.degree) / w.numbers.small in
    let len : length (take w.numbers.dimension zs) ≡ w.numbers.dimension = length-take n zs ∙ omega arith in
    ap (λ (x : ℕ). u * x)
    (turn_total w.numbers.small (take n zs) s (len ∙ sym small.long) (λ j l. small.bits j (omega (arith, small.long)))
    ∙ ap (λ (m : ℕ). total m (λ j. get_or (take n zs) j 0 * bits_of s j)) len
    ∙ total_same n _ (λ j. get_or zs j 0 * bits_of s j) (λ j l. ap (λ (x : ℕ). x * bits_of s j) (get_or-take n zs j 0 l)))
    ∙ sym (total_scale n u (λ j. get_or zs j 0) (bits_of s))

-- the last four stages are those of the law of gates
pub settled_is : (w : Within) (rows acc : List ℕ)
    → settled_of w.numbers rows acc
    ≡ refresh w.numbers.degree w.numbers.dimension w.numbers.modulus w.numbers.switch w.numbers.small w.numbers.radix w.numbers.places
    (row_at w.numbers.places (w.numbers.dimension + 1) rows) acc
unfolding settled_of switch_words
settled_is w rows acc =
    let n = w.numbers in
    let M : ℕ = w.numbers.switch in
    let some : 0 < w.numbers.switch = (let h = w.switching.0 in omega arith) in
    let ys : List ℕ = narrowed_of w.numbers (extracted_of w.numbers acc) in
    let long : length ys ≡ suc w.numbers.degree = narrow_long (suc n.degree) n.modulus M (extracted_of w.numbers acc) in
    ap (λ (v : List ℕ). finished_of w.numbers (switch n.degree n.dimension M n.radix n.places (row_at n.places (n.dimension + 1) rows) v))
    (sym (reduced_same (suc n.degree) M ys
    (long, λ k l. narrow_below (suc n.degree) n.modulus M (extracted_of w.numbers acc) some k (omega arith))))

combine_long : (n q o t : ℕ) (xs ys : List ℕ) → length (combine n q o t xs ys) ≡ suc n
unfolding combine
combine_long n q o t xs ys = words_long (suc n) q _

pub begins : (N Q e : ℕ) → 0 < Q → Alike Q N (coeffs (beginning N Q e)) (power N e (test N (pos (Q / 8))))
unfolding beginning
begins N Q e some = words_alike N Q (power N e (test N (pos (Q / 8)))) some

pub begin_below : (N Q e : ℕ) → 0 < Q → (k : ℕ) → k < N → get_or (beginning N Q e) k 0 < Q
unfolding beginning
begin_below N Q e some = words_below N Q (power N e (test N (pos (Q / 8)))) some

taken_poly : (w : Within) (key : List (List ℕ)) (cs : List ℕ) → IsPoly w.numbers.degree w.numbers.modulus (taken_words w.numbers key cs)
unfolding taken_words
taken_poly w key cs =
    let n = w.numbers in
    let long : length (words w.numbers.degree w.numbers.modulus (taken_by w.numbers key 0 cs)) ≡ w.numbers.degree = words_long n.degree n.modulus (taken_by n key 0 cs) in
    (long, λ k l. words_below n.degree n.modulus (taken_by n key 0 cs) (omega (arith, w.moduli.2)) k (omega arith))

pub taken_alike : (w : Within) (key : List (List ℕ)) (cs : List ℕ)
    → Alike w.numbers.modulus w.numbers.degree (coeffs (taken_words w.numbers key cs)) (taken_by w.numbers key 0 cs)
unfolding taken_words
taken_alike w key cs = words_alike w.numbers.degree w.numbers.modulus (taken_by w.numbers key 0 cs) (omega (arith, w.moduli.2))

module _ (defined : Numbers → List ℕ → List (List ℕ) → List ℕ → List ℕ) (noise count : Within → ℕ) (message : Within → List ℤ → ℕ → List ℕ)
    (means : Means defined noise count message) (set : Set) (l : Letter) (start keys : List (List ℕ)) (rows xs ys : List ℕ)
    (long : length keys ≡ count set.within * set.within.numbers.digits)
    (polys : ArePolys set.within.numbers.degree set.within.numbers.modulus keys) where
  module _ (f s : List ℤ) (stated : set.stated ≡ noise set.within) (fit : KeysFit message count set.within f s start keys rows) where
    fits : Fits set.within.numbers.degree set.within.numbers.dimension set.within.numbers.small set.within.numbers.modulus
        set.within.numbers.dropped set.within.numbers.base set.within.numbers.digits set.within.numbers.noise
        set.within.numbers.weight set.within.numbers.ones set.within.numbers.switch set.within.numbers.radix
        set.within.numbers.places set.within.numbers.jitter set.within.numbers.bound set.stated
        (entries f) (bits_of s) (key_at set.within.numbers.digits start 0)
        (row_at set.within.numbers.places (set.within.numbers.dimension + 1) rows)
    fits =
        let n = set.within.numbers in
        record {
          length_some = omega (arith, set.within.lengths.0);
          circle = circle set.within;
          sixteenth = sixteenth set.within;
          moduli = (omega (arith, set.within.moduli.2), omega (arith, set.within.switching.0));
          covers = (ring_covers set, switch_covers set);
          light = (ring_light n f fit.sweeps.ring, small_light n s fit.sweeps.small);
          starts = fit.starts;
          switches = λ j a i b. subst (λ (φ : ℤ). Near n.switch n.jitter φ (entries f j *ℤ pos (n.radix ^ i)))
              (phase_bits n s fit.sweeps.small (row_at n.places (n.dimension + 1) rows j i)) (fit.switches j a i b);
          closes = closes set;
        }

    pub answers : (a b : Bool) → HoldsBit set.within.numbers (room_of set.within.numbers) s a xs
        → HoldsBit set.within.numbers (room_of set.within.numbers) s b ys
        → HoldsBit set.within.numbers set.within.numbers.bound s (bit_of l a b) (gate_of defined set.within.numbers l start keys rows xs ys)
    unfolding gate_of rotated_of
    answers a b hx hy =
        let w = set.within in
        let n = set.within.numbers in
        let N : ℕ = set.within.numbers.degree in
        let Q : ℕ = set.within.numbers.modulus in
        let q : ℕ = set.within.numbers.small in
        let dim : ℕ = set.within.numbers.dimension in
        let some : 0 < set.within.numbers.modulus = omega (arith, set.within.moduli.2) in
        let zs : List ℕ = combined_of n l xs ys in
        let zl : length (combined_of set.within.numbers l xs ys) ≡ suc set.within.numbers.dimension = combine_long dim q (offset_of l) (times_of l) xs ys in
        let cs : List ℕ = beginning N Q (turns n (get_or zs dim 0)) in
        let fw : List ℕ = taken_words n start cs in
        let old : List ℕ = reduced N Q fw in
        let acc : List ℕ = defined n (take dim zs) keys old in
        let es : length (take set.within.numbers.dimension (combined_of set.within.numbers l xs ys)) ≡ set.within.numbers.dimension =
        length-take dim zs ∙ omega arith in
        let moved : Carries Q N (entries f) (turns n (turn_sum q (take dim zs) s)) (noise w) (coeffs old) (coeffs acc) =
        means set f s (take dim zs) keys old es long polys (reduced_poly N Q fw some) fit.sweeps in
        let moved' : Carries Q N (entries f) (total dim (λ j. (N + N) / q * get_or zs j 0 * bits_of s j)) set.stated (coeffs fw) (coeffs acc) =
        subst (λ (o : List ℕ). Carries Q N (entries f) (total dim (λ j. (N + N) / q * get_or zs j 0 * bits_of s j)) set.stated (coeffs o) (coeffs acc))
        (sym (reduced_same N Q fw (taken_poly w start cs)))
        (subst (λ (S : ℕ). Carries Q N (entries f) (total dim (λ j. (N + N) / q * get_or zs j 0 * bits_of s j)) S (coeffs old) (coeffs acc)) (sym stated)
        (subst (λ (e : ℕ). Carries Q N (entries f) e (noise w) (coeffs old) (coeffs acc)) (turns_total w s fit.sweeps.small zs (omega arith)) moved)) in
        let h = answer_holds N dim q Q n.dropped n.base n.digits n.noise n.weight n.ones n.switch n.radix n.places n.jitter n.bound set.stated
        (entries f) (bits_of s) (key_at n.digits start 0) (row_at n.places (n.dimension + 1) rows) fits
        (offset_of l) (times_of l) (num_of a) (num_of b) xs ys cs (coeffs fw) acc (bits_right.letter l) (num_bit a) (num_bit b)
        (holds_bits n s fit.sweeps.small (room_of n) (num_of a) xs hx) (holds_bits n s fit.sweeps.small (room_of n) (num_of b) ys hy)
        (begin_below N Q (turns n (get_or zs dim 0)) some) (begins N Q (turns n (get_or zs dim 0)) some) (taken_alike w start cs) moved' in
        bits_holds n s fit.sweeps.small n.bound (num_of (bit_of l a b)) (settled_of n rows acc)
        (subst (λ (m : ℕ). Holds dim q n.bound (λ j. pos (bits_of s j)) m (settled_of n rows acc)) (bits_right.bit l a b)
        (subst (λ (r : List ℕ). Holds dim q n.bound (λ j. pos (bits_of s j)) (outcome (offset_of l) (times_of l) (num_of a) (num_of b)) r) (sym (settled_is w rows acc)) h))

  pub gate_holds : GateHolds noise count message set l start keys rows xs ys (gate_of defined set.within.numbers l start keys rows xs ys)
  gate_holds = record { holds = answers }

-- the gate, from its combined words
pub gate_from : (defined : Numbers → List ℕ → List (List ℕ) → List ℕ → List ℕ) (n : Numbers) (l : Letter) (start keys : List (List ℕ)) (rows xs ys zs : List ℕ)
    → zs ≡ combined_of n l xs ys → settled_of n rows (rotated_of defined n start keys zs) ≡ gate_of defined n l start keys rows xs ys
unfolding gate_of
gate_from defined n l start keys rows xs ys zs e = ap (λ (v : List ℕ). settled_of n rows (rotated_of defined n start keys v)) e

pub gate_long : (defined : Numbers → List ℕ → List (List ℕ) → List ℕ → List ℕ) (n : Numbers) (l : Letter) (start keys : List (List ℕ)) (rows xs ys : List ℕ)
    → length (gate_of defined n l start keys rows xs ys) ≡ words_of n
unfolding gate_of settled_of
gate_long defined n l start keys rows xs ys =
    narrow_long (suc n.dimension) n.switch n.small _ ∙ omega arith
