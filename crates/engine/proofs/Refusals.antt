-- What a load answers is the least fault that is true of what it was handed.
use Rattle.std.proofs.Common.{◌≡◌, ℕ, ◌+◌, ◌*◌, ◌<◌, ◌≤◌, true, ◌&&◌, eqb, leb, ◌⊎◌, List, length, drop, Some, None, Option, sym, refl, ap, ◌∙◌, subst, inl, inr, arith}
use Rattle.std.proofs.lemmas.List.{length-take, length-take-le, length-drop}
use Rattle.std.proofs.lemmas.Bool.{leb-true, eqb-true, eqb-false, and_parts}
use Rattle.faults.specs.declared.fault.Fault.{Fault}
use Rattle.faults.specs.declared.fault.Fault.TheVariants.{PartLength, Length, ImageWord}
use Rattle.faults.specs.declared.fault.Layer.TheVariants.{Image}
use Rattle.faults.specs.Causes.{row_of}
use Rattle.faults.specs.Least.{NoLater, Least, or_else}
use Rattle.faults.proofs.Least.{least_or, row_first, row_last, no_later_by}
use Rattle.set.specs.declared.numbers.Numbers.{Numbers}
use Rattle.set.specs.declared.within.Within.{Within}
use Rattle.set.specs.Rules.{set_broken, WrongSet}
use Rattle.set.proofs.Limits.{Short, or_first, or_next, first_none, passes, peel}
use Rattle.set.proofs.Rules.{set_row, set_least}
use Rattle.image.specs.Bytes.{words_of, all_zero}
use Rattle.image.specs.Directory.{offset_of, length_of, end_of, part_at, gap_before, header_fits, span_fits, image_refused, WrongImage}
use Rattle.image.proofs.Refusals.{image_least}
use Rattle.image.proofs.Words.{words_long}
use Rattle.engine.specs.Load.{start_words, selector_words, row_words, image_numbers, parts_broken, image_broken, word_broken, image_words_broken, load_lists, load_broken, PartsRight, WrongParts, WrongLists, WrongWord, WrongWords, WrongKeys, WrongLoad}
use Rattle.engine.proofs.Highs.{word_least}

-- a second refusal counts only where there is no first
least_then : (W V : Fault → Type 0) (a b : Option Fault) → Least W a → (a ≡ None → Least V b)
    → ((f g : Fault) → W f → V g → NoLater f g) → Least (λ g. W g ⊎ V g) (or_else a b)
least_then W V (Some f) b h k apart = (inl h.0, λ g w. elim w [ inl x ↦ h.1 g x | inr y ↦ apart f g h.0 y ])
least_then W V None b h k apart = least_or W V None b h (k refl) apart

-- the rows of the faults
image_row : (image : List ℕ) (g : Fault) → WrongImage image g → row_of g ≡ 1
image_row image g w =
    elim w [
      | inl a ↦ ap row_of a.0
      | inr b ↦ elim b [
        | inl a ↦ ap row_of a.0
        | inr b ↦ elim b
            [ inl a ↦ ap row_of a.0 | inr b ↦ elim b [ inl a ↦ ap row_of a.0 | inr b ↦ ap row_of b.0 ] ]
      ]
    ]

pub row_between : (g f : Fault) → g ≡ f → 1 < row_of f → row_of f < 6 → (1 < row_of g) × (row_of g < 6)
row_between g f e a b = let h = ap row_of e in (omega arith, omega arith)

parts_row : (n : Numbers) (count : ℕ) (image : List ℕ) (g : Fault) → WrongParts n count image g → row_of g ≡ 6
parts_row n count image g w =
    elim w [ inl a ↦ ap row_of a.0 | inr b ↦ elim b [ inl a ↦ ap row_of a.0 | inr b ↦ ap row_of b.0 ] ]

lists_row : (n : Numbers) (count start selectors rows scratch : ℕ) (g : Fault) → WrongLists n count start selectors rows scratch g → row_of g ≡ 7
lists_row n count start selectors rows scratch g w =
    elim w [
      | inl a ↦ ap row_of a.0
      | inr b ↦ elim b
          [ inl a ↦ ap row_of a.0 | inr b ↦ elim b [ inl a ↦ ap row_of a.0 | inr b ↦ ap row_of b.0 ] ]
    ]

words_row : (n : Numbers) (image : List ℕ) (g : Fault) → WrongWords n image g → row_of g ≡ 8
words_row n image g w =
    elim w [ inl a ↦ ap row_of a.1.0 | inr b ↦ elim b [ inl a ↦ ap row_of a.1.0 | inr b ↦ ap row_of b.1.0 ] ]

-- the lengths of the parts, and of the lists
parts_least : (n : Numbers) (count : ℕ) (image : List ℕ) → Least (WrongParts n count image) (parts_broken n count image)
parts_least n count image =
    let a = 4 * start_words n in
    let b = 4 * selector_words n count in
    let c = 4 * row_words n in
    (row_first (PartLength 1) (PartLength 2) _ _ (eqb (length_of image 1) a) _ (inr (refl, inl (omega arith)))
    (λ e. eqb-false (length_of image 1) a e) (λ p e. p (eqb-true (length_of image 1) a e))
    (row_first (PartLength 2) (PartLength 3) _ _ (eqb (length_of image 2) b) _ (inr (refl, inl (omega arith)))
    (λ e. eqb-false (length_of image 2) b e) (λ p e. p (eqb-true (length_of image 2) b e))
    (row_last (PartLength 3) (eqb (length_of image 3) c) _
    (λ e. eqb-false (length_of image 3) c e) (λ p e. p (eqb-true (length_of image 3) c e))))).least

lists_least : (n : Numbers) (count start selectors rows scratch : ℕ)
    → Least (WrongLists n count start selectors rows scratch) (load_lists n count start selectors rows scratch)
lists_least n count start selectors rows scratch =
    (row_first (Length 1 Image) (Length 2 Image) _ _ (eqb start (start_words n)) _ (inr (refl, inl (omega arith)))
    (λ e. eqb-false start (start_words n) e) (λ p e. p (eqb-true start (start_words n) e))
    (row_first (Length 2 Image) (Length 3 Image) _ _ (eqb selectors (selector_words n count)) _ (inr (refl, inl (omega arith)))
    (λ e. eqb-false selectors (selector_words n count) e) (λ p e. p (eqb-true selectors (selector_words n count) e))
    (row_first (Length 3 Image) (Length 4 Image) _ _ (eqb rows (row_words n)) _ (inr (refl, inl (omega arith)))
    (λ e. eqb-false rows (row_words n) e) (λ p e. p (eqb-true rows (row_words n) e))
    (row_last (Length 4 Image) (eqb scratch n.degree) _
    (λ e. eqb-false scratch n.degree e) (λ p e. p (eqb-true scratch n.degree e)))))).least

pub parts_right : (n : Numbers) (count : ℕ) (image : List ℕ) → parts_broken n count image ≡ None → PartsRight n count image
parts_right n count image e =
    let x = peel (eqb (length_of image 1) (4 * start_words n)) _ _ e in
    let y = peel (eqb (length_of image 2) (4 * selector_words n count)) _ _ x.1 in
    record {
      first = eqb-true (length_of image 1) (4 * start_words n) x.0;
      second = eqb-true (length_of image 2) (4 * selector_words n count) y.0;
      third = eqb-true (length_of image 3) (4 * row_words n) (passes (eqb (length_of image 3) (4 * row_words n)) _ y.1);
    }

pub record ListsRight (n : Numbers) (count start selectors rows scratch : ℕ) : Type 0 where
  pub start_long : start ≡ start_words n
  pub selectors_long : selectors ≡ selector_words n count
  pub rows_long : rows ≡ row_words n
  pub scratch_long : scratch ≡ n.degree

pub lists_right : (n : Numbers) (count start selectors rows scratch : ℕ) → load_lists n count start selectors rows scratch ≡ None
    → ListsRight n count start selectors rows scratch
lists_right n count start selectors rows scratch e =
    let x = peel (eqb start (start_words n)) _ _ e in
    let y = peel (eqb selectors (selector_words n count)) _ _ x.1 in
    let z = peel (eqb rows (row_words n)) _ _ y.1 in
    record {
      start_long = eqb-true start (start_words n) x.0;
      selectors_long = eqb-true selectors (selector_words n count) y.0;
      rows_long = eqb-true rows (row_words n) z.0;
      scratch_long = eqb-true scratch n.degree (passes (eqb scratch n.degree) _ z.1);
    }

-- numbers within their limits have 32 bits
pub within_short : (w : Within) → Short w.numbers
within_short w =
    record { degree_short = omega arith; small_short = omega arith; dropped_short = omega arith; base_short = omega arith; switch_short = omega arith; radix_short = omega arith }

-- a part within the image has the bytes that its pair tells
pub part_long : (image : List ℕ) (pair : ℕ) → end_of image pair ≤ length image → length (part_at image pair) ≡ length_of image pair
part_long image pair h =
    length-take-le (length_of image pair) (drop (offset_of image pair) image) (omega (arith, length-drop (offset_of image pair) image))

-- a word of a part lies before its end
word_before : (image : List ℕ) (pair k : ℕ) → k < length (words_of (part_at image pair)) → offset_of image pair + 4 * k < end_of image pair
word_before image pair k h =
    omega (arith, words_long (part_at image pair), length-take (length_of image pair) (drop (offset_of image pair) image))

module _ (image : List ℕ) where
  starts : (from i : ℕ) → span_fits image from i ≡ true → from ≤ offset_of image i
  starts from i e =
      leb-true from (offset_of image i)
      (and_parts (leb from (offset_of image i)) (leb (end_of image i) (length image) && all_zero (gap_before image from i)) e).0

  -- parts come one after the other
  in_order : image_refused image ≡ None → (end_of image 1 ≤ offset_of image 2) × (end_of image 2 ≤ offset_of image 3)
  in_order e =
      let w = peel (header_fits image) _ _ e in
      let x = peel (span_fits image 34 0 && eqb (length_of image 0) 64) _ _ w.1 in
      let y = peel (span_fits image (end_of image 0) 1) _ _ x.1 in
      let z = peel (span_fits image (end_of image 1) 2) _ _ y.1 in (
        starts (end_of image 1) 2 z.0,
        starts (end_of image 2) 3
            (and_parts (span_fits image (end_of image 2) 3) (eqb (end_of image 3) (length image))
            (passes (span_fits image (end_of image 2) 3 && eqb (end_of image 3) (length image)) _ z.1)).0,
      )

  word_word : (i j m l : ℕ) → end_of image i ≤ offset_of image j → (f g : Fault) → WrongWord image i m f → WrongWord image j l g → NoLater f g
  word_word i j m l h f g w v =
      no_later_by f g (ImageWord (offset_of image i + 4 * w.0)) (ImageWord (offset_of image j + 4 * v.0)) w.1.0 v.1.0
      (inr (refl, inl (omega (arith, word_before image i w.0 w.1.1.0))))

  words_least : (n : Numbers) → image_refused image ≡ None → Least (WrongWords n image) (image_words_broken n image)
  words_least n e =
      let o = in_order e in
      let q = n.modulus in
      let m = n.switch in
      least_or (WrongWord image 1 q) (λ g. WrongWord image 2 q g ⊎ WrongWord image 3 m g) (word_broken image 1 q) (or_else (word_broken image 2 q) (word_broken image 3 m))
      (word_least image 1 q)
      (least_or (WrongWord image 2 q) (WrongWord image 3 m) (word_broken image 2 q) (word_broken image 3 m) (word_least image 2 q) (word_least image 3 m)
      (word_word 2 3 q m o.1))
      (λ f g w v. elim v [
        | inl a ↦ word_word 1 2 q q o.0 f g w a
        | inr b ↦ word_word 1 3 q m (let x = o.0 in let y = o.1 in omega arith) f g w b
      ])

  keys_by : (stated count : ℕ) → (image_refused image ≡ None → Least (WrongSet (image_numbers image) stated) (set_broken (image_numbers image) stated))
      → Least (WrongKeys stated count image) (image_broken stated count image)
  keys_by stated count h =
      let n = image_numbers image in
      least_then (WrongImage image) (λ g. WrongSet n stated g ⊎ WrongParts n count image g) (image_refused image) (or_else (set_broken n stated) (parts_broken n count image))
      (image_least image)
      (λ e. least_or (WrongSet n stated) (WrongParts n count image) (set_broken n stated) (parts_broken n count image) (h e) (parts_least n count image)
      (λ f g w v. inl (let a = set_row n stated f w in let b = parts_row n count image g v in omega arith)))
      (λ f g w v. inl (let a = image_row image f w in elim v
      [ inl x ↦ (let b = set_row n stated g x in omega arith) | inr y ↦ (let b = parts_row n count image g y in omega arith) ]))

  -- a directory that is refused, and numbers of 32 bits
  pub keys_refused : (stated count : ℕ) (f : Fault) → Some f ≡ image_refused image → Least (WrongKeys stated count image) (image_broken stated count image)
  keys_refused stated count f e = keys_by stated count (λ h. absurd (let z : ◌≡◌ {A = ℕ} 0 1 = cc in omega arith))

  pub keys_least : (stated count : ℕ) (m : Numbers) → Short m → m ≡ image_numbers image → Least (WrongKeys stated count image) (image_broken stated count image)
  keys_least stated count m short e =
      keys_by stated count (λ h. subst (λ (n : Numbers). Least (WrongSet n stated) (set_broken n stated)) e (set_least m stated short))

  keys_row : (stated count : ℕ) (g : Fault) → WrongKeys stated count image g → row_of g < 7
  keys_row stated count g w =
      elim w [
        | inl a ↦ (let e = image_row image g a in omega arith)
        | inr b ↦ elim b [
          | inl x ↦ (let e = set_row (image_numbers image) stated g x in omega arith)
          | inr y ↦ (let e = parts_row (image_numbers image) count image g y in omega arith)
        ]
      ]

  pub load_least : (stated count start selectors rows scratch : ℕ) → Least (WrongKeys stated count image) (image_broken stated count image)
      → Least (WrongLoad stated count image start selectors rows scratch) (load_broken stated count image start selectors rows scratch)
  load_least stated count start selectors rows scratch h =
      let n = image_numbers image in
      let lists = load_lists n count start selectors rows scratch in
      least_then (WrongKeys stated count image) (λ g. WrongLists n count start selectors rows scratch g ⊎ WrongWords n image g)
      (image_broken stated count image) (or_else lists (image_words_broken n image)) h
      (λ e. least_or (WrongLists n count start selectors rows scratch) (WrongWords n image) lists (image_words_broken n image)
      (lists_least n count start selectors rows scratch)
      (words_least n (first_none (image_refused image) _ e))
      (λ f g w v. inl (let a = lists_row n count start selectors rows scratch f w in let b = words_row n image g v in omega arith)))
      (λ f g w v. inl (let a = keys_row stated count f w in elim v
      [ inl x ↦ (let b = lists_row n count start selectors rows scratch g x in omega arith) | inr y ↦ (let b = words_row n image g y in omega arith) ]))

-- the answers in their order
module _ (image : List ℕ) (stated count : ℕ) where
  abbrev rest : Option Fault
  rest = or_else (set_broken (image_numbers image) stated) (parts_broken (image_numbers image) count image)

  pub keys_first : (f : Fault) → Some f ≡ image_refused image → Some f ≡ image_broken stated count image
  keys_first f e = sym (or_first (image_refused image) rest f (sym e))

  pub keys_next : (f : Fault) → None ≡ image_refused image → Some f ≡ set_broken (image_numbers image) stated → Some f ≡ image_broken stated count image
  keys_next f e h =
      sym (or_next (image_refused image) rest (sym e) ∙ or_first (set_broken (image_numbers image) stated) (parts_broken (image_numbers image) count image) f (sym h))

  pub keys_last : (o : Option Fault) → None ≡ image_refused image → None ≡ set_broken (image_numbers image) stated
      → o ≡ parts_broken (image_numbers image) count image → o ≡ image_broken stated count image
  keys_last o e h k =
      k ∙ sym (or_next (image_refused image) rest (sym e) ∙ or_next (set_broken (image_numbers image) stated) (parts_broken (image_numbers image) count image) (sym h))

  module _ (start selectors rows scratch : ℕ) where
    abbrev lists : Option Fault
    lists = load_lists (image_numbers image) count start selectors rows scratch

    abbrev words : Option Fault
    words = image_words_broken (image_numbers image) image

    pub load-first : (f : Fault) → Some f ≡ image_broken stated count image → Some f ≡ load_broken stated count image start selectors rows scratch
    load-first f e = sym (or_first (image_broken stated count image) (or_else lists words) f (sym e))

    pub load-next : (f : Fault) → None ≡ image_broken stated count image → Some f ≡ lists → Some f ≡ load_broken stated count image start selectors rows scratch
    load-next f e h = sym (or_next (image_broken stated count image) (or_else lists words) (sym e) ∙ or_first lists words f (sym h))

    pub load-last : (o : Option Fault) → None ≡ image_broken stated count image → None ≡ lists → o ≡ words
        → o ≡ load_broken stated count image start selectors rows scratch
    load-last o e h k = k ∙ sym (or_next (image_broken stated count image) (or_else lists words) (sym e) ∙ or_next lists words (sym h))
