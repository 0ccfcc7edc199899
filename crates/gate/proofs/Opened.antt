-- The bits that words hold: one at most, told, opened and sealed.
use Rattle.std.proofs.Common.{◌≡◌, ℕ, zero, suc, ◌+◌, ◌-◌, ◌*◌, ◌/◌, ◌%◌, ◌<◌, ◌≤◌, Bool, true, false, cond, ◌&&◌, eqb, ltb, leb, ◌⊎◌, List, [], ◌∷◌, length, get_or, ℤ, pos, negsuc, ◌+ℤ◌, ◌-ℤ◌, ◌*ℤ◌, nat_abs, None, Ok, Err, Option, sym, refl, ap, ◌∙◌, subst, ap₂, inl, inr, arith, le-ltb, lt-ltb, eq-eqb, ne_eqb}
use borrow.Author.Differences.{ints}
use Rattle.std.proofs.lemmas.Bool.{le-leb, lt-leb, leb-true, and_parts, and_from}
use Rattle.faults.specs.declared.fault.Fault.{Fault}
use Rattle.faults.specs.declared.fault.Fault.TheVariants.{Length, CipherWord, Secret, Phase}
use Rattle.faults.specs.declared.fault.Layer.TheVariants.{Secrets}
use Rattle.faults.specs.Least.{or_else, unless}
use Rattle.algebra.specs.Ints.{Cong, sum_z}
use Rattle.algebra.specs.Polys.{Poly, nonzeros}
use Rattle.algebra.specs.Words.{coeffs, word_of, words}
use Rattle.algebra.specs.Gates.{phase, exponent}
use Rattle.algebra.proofs.Bridge.{word_cong, word_below}
use Rattle.algebra.proofs.Cong.{same, cong_sym, cong_trans}
use Rattle.algebra.proofs.Near.{near_more}
use Rattle.algebra.proofs.Sums.{sum_same}
use Rattle.algebra.proofs.Words.{words_alike, words_long, words_below}
use Rattle.algebra.proofs.Phases.{phase_alike}
use Rattle.algebra.proofs.Letters.{exponent_phase}
use Rattle.algebra.proofs.Opening.{opens_zero, opens_one, holds_one}
use Rattle.set.specs.declared.numbers.Numbers.{Numbers}
use Rattle.set.specs.declared.within.Within.{Within}
use Rattle.sweeps.specs.Fit.{entries, SmallSecret}
use Rattle.gate.specs.Letters.{num_of}
use Rattle.gate.specs.Bits.{phase_of, HoldsBit, room_of, held_of, words_broken, is_bit, entries_broken, secret_broken, opened_at, open_broken, unless_broken, open_of, seal_of}
use Rattle.gate.specs.Laws.{BitLaws}
use Rattle.gate.proofs.Answers.{right_then}
use Rattle.gate.proofs.Opposite.{inverts}
use Rattle.gate.proofs.Sets.{sixteenth, limits}
use Rattle.gate.proofs.Holding.{bits_of, phase_bits, holds_bits, num_bit}

and_first : (b c : Bool) → b ≡ false → (b && c) ≡ false
and_first b c e = ap (λ (x : Bool). x && c) e

and_second : (b c : Bool) → c ≡ false → (b && c) ≡ false
and_second true c e = e
and_second false c e = refl

-- where the phase lies, on a circle of 16 g places
near_bit : (g r : ℕ) (m : Bool) (ε τ : ℤ) → 0 < g → r < 16 * g → pos r ≡ pos (num_of m * (4 * g)) +ℤ ε +ℤ pos (16 * g) *ℤ τ → nat_abs ε ≤ g - 1
    → (leb (4 * g - (g - 1)) r && leb r (4 * g + (g - 1))) ≡ m
near_bit g r true ε (pos zero) some l e h =
    and_from (leb (4 * g - (g - 1)) r) (leb r (4 * g + (g - 1)))
    (le-leb (4 * g - (g - 1)) r (omega (arith, ints))) (le-leb r (4 * g + (g - 1)) (omega (arith, ints)))
near_bit g r true ε (pos (suc t)) some l e h = absurd (omega (arith, ints))
near_bit g r true ε (negsuc t) some l e h = absurd (omega (arith, ints))
near_bit g r false ε (pos zero) some l e h =
    and_first (leb (4 * g - (g - 1)) r) (leb r (4 * g + (g - 1))) (lt-leb (4 * g - (g - 1)) r (omega (arith, ints)))
near_bit g r false ε (pos (suc zero)) some l e h =
    and_second (leb (4 * g - (g - 1)) r) (leb r (4 * g + (g - 1))) (lt-leb r (4 * g + (g - 1)) (omega (arith, ints)))
near_bit g r false ε (pos (suc (suc t))) some l e h = absurd (omega (arith, ints))
near_bit g r false ε (negsuc t) some l e h = absurd (omega (arith, ints))

module _ (w : Within) (s : List ℤ) (xs : List ℕ) where
  some : 0 < w.numbers.small
  some = let h = w.moduli.0 in omega arith

  -- the phase below q
  below : phase_of w.numbers s xs < w.numbers.small
  unfolding phase_of
  below = word_below w.numbers.small (phase w.numbers.dimension (entries s) (coeffs xs)) some

  is_phase : Cong w.numbers.small (pos (phase_of w.numbers s xs)) (phase w.numbers.dimension (entries s) (coeffs xs))
  unfolding phase_of
  is_phase = word_cong w.numbers.small (phase w.numbers.dimension (entries s) (coeffs xs)) some

  -- the bit that words hold is told
  held_is : (m : Bool) → HoldsBit w.numbers (room_of w.numbers) s m xs → held_of w.numbers s xs ≡ m
  held_is m h =
      let q : ℕ = w.numbers.small in
      let g : ℕ = w.numbers.small / 16 in
      let k = sixteenth w in
      let e4 : w.numbers.small / 4 ≡ 4 * (w.numbers.small / 16) = omega (arith, k.1) in
      let c : Cong q (pos (phase_of w.numbers s xs)) (pos (num_of m * (q / 4)) +ℤ h.noise) = cong_trans q is_phase h.is in
      let c16 : Cong (16 * g) (pos (phase_of w.numbers s xs)) (pos (num_of m * (4 * g)) +ℤ h.noise) =
      subst (λ (x : ℕ). Cong (16 * (w.numbers.small / 16)) (pos (phase_of w.numbers s xs)) (pos (num_of m * x) +ℤ h.noise)) e4
      (subst (λ (x : ℕ). Cong x (pos (phase_of w.numbers s xs)) (pos (num_of m * (w.numbers.small / 4)) +ℤ h.noise)) k.1 c) in
      ap (λ (x : ℕ). leb (x - room_of w.numbers) (phase_of w.numbers s xs) && leb (phase_of w.numbers s xs) (x + room_of w.numbers)) e4
      ∙ near_bit g (phase_of w.numbers s xs) m h.noise c16.times k.0 (omega (arith, below, k.1)) c16.is h.small

  -- and 1 is told of no others
  held_holds : held_of w.numbers s xs ≡ true → HoldsBit w.numbers (room_of w.numbers) s true xs
  held_holds t =
      let q : ℕ = w.numbers.small in
      let φ : ℕ = phase_of w.numbers s xs in
      let p = and_parts (leb (q / 4 - room_of w.numbers) φ) (leb φ (q / 4 + room_of w.numbers)) t in
      let low = leb-true (q / 4 - room_of w.numbers) φ p.0 in
      let high = leb-true φ (q / 4 + room_of w.numbers) p.1 in
      let k = sixteenth w in
      record {
        noise = pos φ -ℤ pos (1 * (q / 4));
        is = cong_trans q (cong_sym q is_phase) (same q _ _ (there (pos φ) (pos (1 * (q / 4)))));
        small = gap φ (q / 4) (room_of w.numbers) (omega (arith, k.1)) low high;
      }
    where
      there : (a b : ℤ) → a ≡ b +ℤ (a -ℤ b)
      there a b = omega (arith, ints)

      gap : (φ r v : ℕ) → v ≤ r → r - v ≤ φ → φ ≤ r + v → nat_abs (pos φ -ℤ pos (1 * r)) ≤ v
      gap φ r v a b c = omega (arith, ints)

-- opening
open_zero : (q φ : ℕ) → 0 < q / 8 → (φ < q / 8) ⊎ (7 * (q / 8) ≤ φ) → opened_at q φ ≡ Ok false
open_zero q φ some (inl a) = ap (λ (b : Bool). cond b (Ok false) (cond (ltb φ (3 * (q / 8))) (Ok true) (cond (ltb φ (7 * (q / 8))) (Err (Phase φ)) (Ok false)))) (lt-ltb φ (q / 8) a)
open_zero q φ some (inr b) =
    ap (λ (t : Bool). cond t (Ok false) (cond (ltb φ (3 * (q / 8))) (Ok true) (cond (ltb φ (7 * (q / 8))) (Err (Phase φ)) (Ok false)))) (le-ltb φ (q / 8) (omega arith))
    ∙ ap (λ (t : Bool). cond t (Ok true) (cond (ltb φ (7 * (q / 8))) (Err (Phase φ)) (Ok false))) (le-ltb φ (3 * (q / 8)) (omega arith))
    ∙ ap (λ (t : Bool). cond t (Err (Phase φ)) (Ok false)) (le-ltb φ (7 * (q / 8)) b)

open_one : (q φ : ℕ) → (q / 8 ≤ φ) × (φ < 3 * (q / 8)) → opened_at q φ ≡ Ok true
open_one q φ h =
    ap (λ (t : Bool). cond t (Ok false) (cond (ltb φ (3 * (q / 8))) (Ok true) (cond (ltb φ (7 * (q / 8))) (Err (Phase φ)) (Ok false)))) (le-ltb φ (q / 8) h.0)
    ∙ ap (λ (t : Bool). cond t (Ok true) (cond (ltb φ (7 * (q / 8))) (Err (Phase φ)) (Ok false))) (lt-ltb φ (3 * (q / 8)) h.1)

-- nothing is refused
words_right : (q i : ℕ) (xs : List ℕ) → ((k : ℕ) → k < length xs → get_or xs k 0 < q) → words_broken q i xs ≡ None
words_right q i [] h = refl
words_right q i (x ∷ xs) h =
    ap (λ (b : Bool). or_else (unless b (CipherWord i Secrets)) (words_broken q (i + 1) xs)) (lt-ltb x q (h 0 (omega arith)))
    ∙ words_right q (i + 1) xs (λ k l. h (suc k) (omega arith))

bit_right : (z : ℤ) → (z ≡ pos 0) ⊎ (z ≡ pos 1) → is_bit z ≡ true
bit_right z (inl e) = ap is_bit e
bit_right z (inr e) = ap is_bit e

entries_right : (l i : ℕ) (s : List ℤ) → ((k : ℕ) → k < length s → (get_or s k (pos 0) ≡ pos 0) ⊎ (get_or s k (pos 0) ≡ pos 1)) → entries_broken l i s ≡ None
entries_right l i [] h = refl
entries_right l i (z ∷ s) h =
    ap (λ (b : Bool). or_else (unless b (Secret l i)) (entries_broken l (i + 1) s)) (bit_right z (h 0 (omega arith)))
    ∙ entries_right l (i + 1) s (λ k b. h (suc k) (omega arith))

secret_right : (n : Numbers) (l : ℕ) (s : List ℤ) → SmallSecret n s → secret_broken n l s ≡ None
secret_right n l s small =
    ap (λ (o : Option Fault). or_else o (unless (leb (nonzeros n.dimension (entries s)) n.ones) (Secret l (length s))))
    (entries_right l 0 s (λ k b. small.bits k (omega (arith, small.long))))
    ∙ ap (λ (b : Bool). unless b (Secret l (length s))) (le-leb (nonzeros n.dimension (entries s)) n.ones small.light)

open_right : (w : Within) (s : List ℤ) (xs : List ℕ) → SmallSecret w.numbers s → length xs ≡ w.numbers.dimension + 1
    → ((k : ℕ) → k < length xs → get_or xs k 0 < w.numbers.small) → open_broken w.numbers xs s ≡ None
open_right w s xs small long low =
    let n = w.numbers in
    right_then (length xs) (n.dimension + 1) (Length 0 Secrets)
    (or_else (unless (eqb (length s) n.dimension) (Length 1 Secrets)) (or_else (words_broken n.small 0 xs) (secret_broken n 1 s))) long
    ∙ right_then (length s) n.dimension (Length 1 Secrets) (or_else (words_broken n.small 0 xs) (secret_broken n 1 s)) small.long
    ∙ ap (λ (o : Option Fault). or_else o (secret_broken n 1 s)) (words_right n.small 0 xs low)
    ∙ secret_right n 1 s small

-- the phase as the law of openings has it
phase_exponent : (w : Within) (s : List ℤ) (xs : List ℕ) → SmallSecret w.numbers s
    → phase_of w.numbers s xs ≡ exponent w.numbers.dimension (bits_of s) xs % w.numbers.small
unfolding phase_of
phase_exponent w s xs small =
    ap (word_of w.numbers.small) (phase_bits w.numbers s small (coeffs xs) ∙ sym (exponent_phase w.numbers.dimension (bits_of s) xs))

eighth : (w : Within) → (0 < w.numbers.small / 8) × (w.numbers.small ≡ 8 * (w.numbers.small / 8))
eighth w = let k = sixteenth w in (omega (arith, k.0, k.1), omega (arith, k.1))

opened_at_lem : (w : Within) (s : List ℤ) (xs : List ℕ) (m : Bool) (V : ℕ) → SmallSecret w.numbers s → V < w.numbers.small / 8
    → HoldsBit w.numbers V s m xs → opened_at w.numbers.small (phase_of w.numbers s xs) ≡ Ok m
opened_at_lem w s xs true V small l h =
    let q : ℕ = w.numbers.small in
    ap (opened_at q) (phase_exponent w s xs small)
    ∙ open_one q (exponent w.numbers.dimension (bits_of s) xs % q)
    (opens_one w.numbers.dimension q (bits_of s) xs (eighth w).0 (eighth w).1 V l (holds_bits w.numbers s small V 1 xs h))
opened_at_lem w s xs false V small l h =
    let q : ℕ = w.numbers.small in
    ap (opened_at q) (phase_exponent w s xs small)
    ∙ open_zero q (exponent w.numbers.dimension (bits_of s) xs % q) (eighth w).0
    (opens_zero w.numbers.dimension q (bits_of s) xs (eighth w).0 (eighth w).1 V l (holds_bits w.numbers s small V 0 xs h))

opens_to : (w : Within) (s : List ℤ) (xs : List ℕ) (m : Bool) (V : ℕ) → SmallSecret w.numbers s
    → length xs ≡ w.numbers.dimension + 1 → ((k : ℕ) → k < length xs → get_or xs k 0 < w.numbers.small)
    → V < w.numbers.small / 8 → HoldsBit w.numbers V s m xs → open_of w.numbers xs s ≡ Ok m
opens_to w s xs m V small long low l h =
    ap (λ (o : Option Fault). unless_broken o (opened_at w.numbers.small (phase_of w.numbers s xs))) (open_right w s xs small long low)
    ∙ opened_at_lem w s xs m V small l h

-- one bit at most
num_one : (a b : Bool) → num_of a ≡ num_of b → a ≡ b
num_one true true e = refl
num_one false false e = refl
num_one true false e = absurd (omega arith)
num_one false true e = absurd (omega arith)

one_bit : (w : Within) (s : List ℤ) (xs : List ℕ) (a b : Bool) (V W : ℕ) → SmallSecret w.numbers s
    → V < w.numbers.small / 8 → W < w.numbers.small / 8 → HoldsBit w.numbers V s a xs → HoldsBit w.numbers W s b xs → a ≡ b
one_bit w s xs a b V W small hv hw ha hb =
    num_one a b (holds_one w.numbers.dimension w.numbers.small (bits_of s) xs (eighth w).0 (eighth w).1 V W (num_of a) (num_of b) hv hw (num_bit a) (num_bit b)
    (holds_bits w.numbers s small V (num_of a) xs ha) (holds_bits w.numbers s small W (num_of b) xs hb))

-- sealing
module _ (w : Within) (s random : List ℤ) (m : Bool) (e : ℤ) where
  abbrev sum : ℤ
  sum = sum_z w.numbers.dimension (λ i. entries s i *ℤ entries random i)

  abbrev last : ℤ
  last = pos (num_of m * (w.numbers.small / 4)) +ℤ e -ℤ sum

  abbrev open_words : Poly
  open_words j = cond (eqb j w.numbers.dimension) last (entries random j)

  open_phase : phase w.numbers.dimension (entries s) open_words ≡ pos (num_of m * (w.numbers.small / 4)) +ℤ e
  open_phase =
      let n : ℕ = w.numbers.dimension in
      ap₂ ◌+ℤ◌ (ap (λ (b : Bool). cond b last (entries random n)) (eq-eqb n n refl))
      (sum_same n _ (λ i. entries s i *ℤ entries random i) (λ i l.
      ap (λ (b : Bool). entries s i *ℤ cond b last (entries random i)) (ne_eqb i n (λ d. omega arith))))
      ∙ back (pos (num_of m * (w.numbers.small / 4)) +ℤ e) sum
    where
      back : (v x : ℤ) → v -ℤ x +ℤ x ≡ v
      back v x = omega (arith, ints)

  sealed_holds : HoldsBit w.numbers (nat_abs e) s m (seal_of w.numbers m s random e)
  unfolding seal_of
  sealed_holds =
      let q : ℕ = w.numbers.small in
      let n : ℕ = w.numbers.dimension in
      record {
        noise = e;
        is = cong_trans q (phase_alike n (entries s) q (coeffs (words (suc n) q open_words)) open_words (words_alike (suc n) q open_words (some w s [])))
            (same q _ _ open_phase);
        small = omega arith;
      }

  sealed_long_lem : length (seal_of w.numbers m s random e) ≡ w.numbers.dimension + 1
  unfolding seal_of
  sealed_long_lem = words_long (suc w.numbers.dimension) w.numbers.small open_words ∙ omega arith

  sealed_below_lem : (k : ℕ) → k < w.numbers.dimension + 1 → get_or (seal_of w.numbers m s random e) k 0 < w.numbers.small
  unfolding seal_of
  sealed_below_lem k l = words_below (suc w.numbers.dimension) w.numbers.small open_words (some w s []) k (omega arith)

room_right : (w : Within) → (w.numbers.bound ≤ room_of w.numbers) × (room_of w.numbers < w.numbers.small / 8)
room_right w = let k = sixteenth w in ((limits w).bound_ok.1, omega (arith, k.0, k.1))

pub bit_laws : BitLaws
bit_laws = record {
  more = λ w s xs m V W l h. near_more w.numbers.small l h;
  room = room_right;
  one = one_bit;
  held = held_is;
  holds = held_holds;
  opens = opens_to;
  sealed = sealed_holds;
  sealed_long = sealed_long_lem;
  sealed_below = sealed_below_lem;
  inverts = λ w s xs m V h. (inverts w xs).holds s V m h;
}
