-- What an image loads as: its numbers, the polynomials of its keys and its rows, and why a load is refused.
use Rattle.std.specs.Prelude.{◌≡◌, ℕ, ◌+◌, ◌*◌, ◌<◌, ◌≤◌, ◌⊎◌, List, length, Some, None, Option, ◌==◌, ◌≢◌, slice_index}
use Rattle.std.specs.List.{range_with_len, flat_map}
use Rattle.faults.specs.declared.fault.Fault.{Fault}
use Rattle.faults.specs.declared.fault.Fault.TheVariants.{PartLength, Length, ImageWord}
use Rattle.faults.specs.declared.fault.Layer.TheVariants.{Image}
use Rattle.faults.specs.Least.{Least, or_else, unless}
use Rattle.rings.specs.declared.ring.Ring.{Ring}
use Rattle.set.specs.declared.numbers.Numbers.{Numbers}
use Rattle.set.specs.declared.within.Within.{Within}
use Rattle.set.specs.declared.checked.Set.{Set}
use Rattle.set.specs.Rules.{set_broken, WrongSet}
use Rattle.sweeps.specs.Forms.{row_of, read_rows}
use Rattle.image.specs.Bytes.{numbers_of, words_of, first_high, four_times}
use Rattle.image.specs.Directory.{offset_of, length_of, part_at, image_refused, WrongImage}

-- the words of the start key, of `count` selectors, and of the switch rows
abbrev pub start_words : Numbers → ℕ
start_words n = n.digits * n.degree

abbrev pub selector_words : Numbers → ℕ → ℕ
selector_words n count = count * n.digits * n.degree

abbrev pub row_words : Numbers → ℕ
row_words n = n.degree * (n.places * (n.dimension + 1))

-- the numbers of the set, and the polynomials of the start key and of the selectors, one after the other
abbrev pub image_numbers : List ℕ → Numbers
image_numbers image = numbers_of (part_at image 0)

abbrev pub image_start : List ℕ → List (List ℕ)
image_start image = read_rows (λ p. p) (image_numbers image).degree (image_numbers image).digits (words_of (part_at image 1))

abbrev pub image_selectors : ℕ → List ℕ → List (List ℕ)
image_selectors count image =
    read_rows (λ p. p) (image_numbers image).degree (count * (image_numbers image).digits) (words_of (part_at image 2))

-- the words of the switch rows
abbrev pub image_rows : List ℕ → List ℕ
image_rows image = words_of (part_at image 3)

-- the first part whose length is not right
abbrev pub parts_broken : Numbers → ℕ → List ℕ → Option Fault
parts_broken n count image =
    or_else (unless (length_of image 1 == 4 * start_words n) (PartLength 1))
    (or_else (unless (length_of image 2 == 4 * selector_words n count) (PartLength 2))
    (unless (length_of image 3 == 4 * row_words n) (PartLength 3)))

-- why an image is refused for a sweep that states this noise and takes so many selectors
abbrev pub image_broken : ℕ → ℕ → List ℕ → Option Fault
image_broken stated count image =
    or_else (image_refused image) (or_else (set_broken (image_numbers image) stated) (parts_broken (image_numbers image) count image))

-- the fault of the word at a byte of a part, where there is one
abbrev pub fault_at : ℕ → Option ℕ → Option Fault
fault_at offset None = None
fault_at offset (Some at) = Some (ImageWord (offset + at))

-- the first word of a part that is not below m
abbrev pub word_broken : List ℕ → ℕ → ℕ → Option Fault
word_broken image pair m = fault_at (offset_of image pair) (four_times (first_high m 0 (words_of (part_at image pair))))

-- the first word of the keys that is not below its modulus
abbrev pub image_words_broken : Numbers → List ℕ → Option Fault
image_words_broken n image =
    or_else (word_broken image 1 n.modulus) (or_else (word_broken image 2 n.modulus) (word_broken image 3 n.switch))

-- the lists that are lent: start key, selectors, rows, scratch
abbrev pub load_lists : Numbers → ℕ → ℕ → ℕ → ℕ → ℕ → Option Fault
load_lists n count start selectors rows scratch =
    or_else (unless (start == start_words n) (Length 1 Image))
    (or_else (unless (selectors == selector_words n count) (Length 2 Image))
    (or_else (unless (rows == row_words n) (Length 3 Image))
    (unless (scratch == n.degree) (Length 4 Image))))

-- why a load is refused, with lists of these lengths
abbrev pub load_broken : ℕ → ℕ → List ℕ → ℕ → ℕ → ℕ → ℕ → Option Fault
load_broken stated count image start selectors rows scratch =
    or_else (image_broken stated count image)
    (or_else (load_lists (image_numbers image) count start selectors rows scratch) (image_words_broken (image_numbers image) image))

-- the forms of `count` rows of N words, one after the other
unfoldable pub form_rows : (List ℕ → List ℕ) → ℕ → ℕ → List ℕ → List ℕ
form_rows form N count ws = flat_map (λ i. form (row_of N ws i)) (range_with_len 0 count)

-- the parts of an image have their lengths
pub record PartsRight (n : Numbers) (count : ℕ) (image : List ℕ) : Type 0 where
  pub first : length_of image 1 ≡ 4 * start_words n
  pub second : length_of image 2 ≡ 4 * selector_words n count
  pub third : length_of image 3 ≡ 4 * row_words n

-- a set checked for a sweep, of an image whose directory and lengths are right for it
pub record SetOf (noise count : Within → ℕ) (image : List ℕ) (s : Set) : Type 0 where
  pub numbers : s.within.numbers ≡ image_numbers image
  pub stated : s.stated ≡ noise s.within
  pub directory : image_refused image ≡ None
  pub parts : PartsRight (image_numbers image) (count s.within) image

-- key memory after a load: the forms of the start key and of the selectors, and the rows
pub record Filled (form : Ring → List ℕ → List ℕ) (s : Set) (count : ℕ) (image start selectors rows : List ℕ) : Type 0 where
  pub start_forms : start ≡ form_rows (form s.ring) s.within.numbers.degree s.within.numbers.digits (words_of (part_at image 1))
  pub selector_forms : selectors
      ≡ form_rows (form s.ring) s.within.numbers.degree (count * s.within.numbers.digits) (words_of (part_at image 2))
  pub rows_same : rows ≡ image_rows image

-- the same as polynomials: what memory reads as is what the image holds
pub record ReadsAs (reads : Ring → List ℕ → List ℕ) (s : Set) (count : ℕ) (image start selectors : List ℕ) : Type 0 where
  pub start_reads : read_rows (reads s.ring) s.within.numbers.degree s.within.numbers.digits start ≡ image_start image
  pub selectors_read : read_rows (reads s.ring) s.within.numbers.degree (count * s.within.numbers.digits) selectors
      ≡ image_selectors count image

-- part `pair` has another length than it should
abbrev pub WrongPart : List ℕ → ℕ → ℕ → Fault → Type 0
WrongPart image pair want g = (g ≡ PartLength pair) × (length_of image pair ≢ want)

abbrev pub WrongParts : Numbers → ℕ → List ℕ → Fault → Type 0
WrongParts n count image g =
    WrongPart image 1 (4 * start_words n) g ⊎ (WrongPart image 2 (4 * selector_words n count) g ⊎ WrongPart image 3 (4 * row_words n) g)

-- list i has another length than it should
abbrev pub WrongList : ℕ → ℕ → ℕ → Fault → Type 0
WrongList i have want g = (g ≡ Length i Image) × (have ≢ want)

abbrev pub WrongLists : Numbers → ℕ → ℕ → ℕ → ℕ → ℕ → Fault → Type 0
WrongLists n count start selectors rows scratch g =
    WrongList 1 start (start_words n) g
    ⊎ (WrongList 2 selectors (selector_words n count) g
    ⊎ (WrongList 3 rows (row_words n) g
    ⊎ WrongList 4 scratch n.degree g))

-- word k of a part is not below m
abbrev pub WrongWord : List ℕ → ℕ → ℕ → Fault → Type 0
WrongWord image pair m g =
    (k : ℕ) × ((g ≡ ImageWord (offset_of image pair + 4 * k))
    × ((k < length (words_of (part_at image pair))) × (m ≤ slice_index (words_of (part_at image pair)) k)))

abbrev pub WrongWords : Numbers → List ℕ → Fault → Type 0
WrongWords n image g =
    WrongWord image 1 n.modulus g ⊎ (WrongWord image 2 n.modulus g ⊎ WrongWord image 3 n.switch g)

-- every fault that is true of an image for a sweep, in no order
abbrev pub WrongKeys : ℕ → ℕ → List ℕ → Fault → Type 0
WrongKeys stated count image g =
    WrongImage image g ⊎ (WrongSet (image_numbers image) stated g ⊎ WrongParts (image_numbers image) count image g)

-- every fault that is true of what a load was handed, in no order
abbrev pub WrongLoad : ℕ → ℕ → List ℕ → ℕ → ℕ → ℕ → ℕ → Fault → Type 0
WrongLoad stated count image start selectors rows scratch g =
    WrongKeys stated count image g
    ⊎ (WrongLists (image_numbers image) count start selectors rows scratch g ⊎ WrongWords (image_numbers image) image g)

-- what is answered is the least of them, by row and then by place, and none where none is true
abbrev pub LeastKeys : ℕ → ℕ → List ℕ → Type 0
LeastKeys stated count image = Least (WrongKeys stated count image) (image_broken stated count image)

abbrev pub LeastLoad : ℕ → ℕ → List ℕ → ℕ → ℕ → ℕ → ℕ → Type 0
LeastLoad stated count image start selectors rows scratch =
    Least (WrongLoad stated count image start selectors rows scratch) (load_broken stated count image start selectors rows scratch)
