-- Key memory after a load of an image that is not refused.
use Rattle.std.proofs.Common.{◌≡◌, ℕ, ◌*◌, ◌/◌, List, length, None, sym, ap, ◌∙◌, arith}
use native.Mathlib.Nat.{mul-div_cancel_left}
use Rattle.rings.specs.declared.ring.Ring.{Ring}
use Rattle.set.specs.declared.numbers.Numbers.{Numbers}
use Rattle.set.specs.declared.within.Within.{Within}
use Rattle.set.specs.declared.checked.Set.{Set}
use Rattle.set.proofs.Limits.{first_none, rest_none}
use Rattle.kernels.specs.Polynomials.{poly_of}
use Rattle.kernels.specs.Reading.{OneForm}
use Rattle.sweeps.specs.Forms.{read_rows}
use Rattle.image.specs.Bytes.{first_words, words_of}
use Rattle.image.specs.Directory.{part_at, PartsInside}
use Rattle.image.proofs.Refusals.{parts_inside}
use Rattle.engine.specs.Load.{start_words, selector_words, row_words, word_broken, image_words_broken, load_lists, form_rows, SetOf, Filled, ReadsAs}
use Rattle.engine.proofs.Highs.{all_below}
use Rattle.engine.proofs.Rows.{part_forms, part_reads}
use Rattle.engine.proofs.Refusals.{ListsRight, lists_right, part_long}

module _ {reads form : Ring → List ℕ → List ℕ} (one : OneForm reads form) (noise count : Within → ℕ) (image : List ℕ) (s : Set)
    (of : SetOf noise count image s) (a b r z : ℕ) (lists : load_lists s.within.numbers (count s.within) a b r z ≡ None)
    (words : image_words_broken s.within.numbers image ≡ None) (start selectors rows : List ℕ)
    (first : start ≡ form_rows (λ p. form s.ring (poly_of s.ring p)) s.ring.degree s.within.numbers.digits (first_words a (part_at image 1)))
    (second : selectors ≡ form_rows (λ p. form s.ring (poly_of s.ring p)) s.ring.degree (count s.within * s.within.numbers.digits) (first_words b (part_at image 2)))
    (third : rows ≡ first_words r (part_at image 3)) where
  abbrev n : Numbers
  n = s.within.numbers

  inside : PartsInside image
  inside = parts_inside image of.directory

  right : ListsRight n (count s.within) a b r z
  right = lists_right n (count s.within) a b r z lists

  start_long_lem : length (part_at image 1) ≡ 4 * start_words n
  start_long_lem = part_long image 1 inside.first ∙ of.parts.first ∙ ap (λ (m : Numbers). 4 * start_words m) (sym of.numbers)

  selectors_long_lem : length (part_at image 2) ≡ 4 * selector_words n (count s.within)
  selectors_long_lem =
      part_long image 2 inside.second ∙ of.parts.second ∙ ap (λ (m : Numbers). 4 * selector_words m (count s.within)) (sym of.numbers)

  rows_long_lem : length (part_at image 3) / 4 ≡ row_words n
  rows_long_lem =
      ap (λ (m : ℕ). m / 4) (part_long image 3 inside.third ∙ of.parts.third ∙ ap (λ (m : Numbers). 4 * row_words m) (sym of.numbers))
      ∙ mul-div_cancel_left (row_words n) (omega arith)

  later : word_broken image 2 n.modulus ≡ None
  later = first_none (word_broken image 2 n.modulus) (word_broken image 3 n.switch) (rest_none (word_broken image 1 n.modulus) _ words)

  pub filled : Filled form s (count s.within) image start selectors rows
  filled =
      record {
        start_forms = part_forms one s n.digits a (part_at image 1) start right.start_long start_long_lem
            (all_below image 1 n.modulus (first_none (word_broken image 1 n.modulus) _ words)) first;
        selector_forms = part_forms one s (count s.within * n.digits) b (part_at image 2) selectors right.selectors_long selectors_long_lem
            (all_below image 2 n.modulus later) second;
        rows_same = third ∙ ap (λ (m : ℕ). first_words m (part_at image 3)) (right.rows_long ∙ sym rows_long_lem);
      }

  pub reads_as : ReadsAs reads s (count s.within) image start selectors
  reads_as =
      record {
        start_reads =
            part_reads one s n.digits a (part_at image 1) start right.start_long start_long_lem
            (all_below image 1 n.modulus (first_none (word_broken image 1 n.modulus) _ words)) first
            ∙ ap (λ (m : Numbers). read_rows (λ p. p) m.degree m.digits (words_of (part_at image 1))) of.numbers;
        selectors_read =
            part_reads one s (count s.within * n.digits) b (part_at image 2) selectors right.selectors_long selectors_long_lem
            (all_below image 2 n.modulus later) second
            ∙ ap (λ (m : Numbers). read_rows (λ p. p) m.degree (count s.within * m.digits) (words_of (part_at image 2))) of.numbers;
      }
