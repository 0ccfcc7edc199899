-- The directory of an image: what its pairs tell, and when it is refused.
use Rattle.std.specs.Prelude.{◌≡◌, ℕ, ◌+◌, ◌-◌, ◌*◌, ◌<◌, ◌≤◌, Bool, ◌&&◌, ◌⊎◌, List, length, take, drop, Option, ◌==◌, ◌≢◌, nat_le, slice_index}
use Rattle.faults.specs.declared.fault.Fault.{Fault}
use Rattle.faults.specs.declared.fault.Fault.TheVariants.{Directory}
use Rattle.faults.specs.Least.{or_else, unless}
use Rattle.image.specs.Bytes.{word_at, all_zero}

-- the number of pairs that the image tells
abbrev pub count_of : List ℕ → ℕ
count_of image = slice_index image 0 * 256 + slice_index image 1

-- pair i tells where part i starts and how many bytes it has
abbrev pub offset_of : List ℕ → ℕ → ℕ
offset_of image i = word_at image (8 * i + 2)

abbrev pub length_of : List ℕ → ℕ → ℕ
length_of image i = word_at image (8 * i + 6)

-- the byte after part i
abbrev pub end_of : List ℕ → ℕ → ℕ
end_of image i = offset_of image i + length_of image i

-- the bytes of part i
abbrev pub part_at : List ℕ → ℕ → List ℕ
part_at image i = take (length_of image i) (drop (offset_of image i) image)

-- the bytes of the gap before part i, where the gap starts at `from`
abbrev pub gap_before : List ℕ → ℕ → ℕ → List ℕ
gap_before image from i = take (offset_of image i - from) (drop from image)

abbrev pub header_fits : List ℕ → Bool
header_fits image = nat_le 34 (length image) && count_of image == 4

-- part i starts at `from` or after a gap of zeros, and ends within the image
abbrev pub span_fits : List ℕ → ℕ → ℕ → Bool
span_fits image from i =
    nat_le from (offset_of image i) && (nat_le (end_of image i) (length image) && all_zero (gap_before image from i))

-- why an image is refused: the first pair that breaks a rule
abbrev pub image_refused : List ℕ → Option Fault
image_refused image =
    or_else (unless (header_fits image) (Directory 0))
    (or_else (unless (span_fits image 34 0 && length_of image 0 == 64) (Directory 0))
    (or_else (unless (span_fits image (end_of image 0) 1) (Directory 1))
    (or_else (unless (span_fits image (end_of image 1) 2) (Directory 2))
    (unless (span_fits image (end_of image 2) 3 && end_of image 3 == length image) (Directory 3)))))

-- the parts lie within the image
pub record PartsInside (image : List ℕ) : Type 0 where
  pub zeroth : end_of image 0 ≤ length image
  pub first : end_of image 1 ≤ length image
  pub second : end_of image 2 ≤ length image
  pub third : end_of image 3 ≤ length image

-- what can be wrong with any pair i, where the part before it ends at `from`: its offset lies before that end,
-- its own end lies beyond the image, or a byte of the gap is not 0
abbrev pub WrongSpan : List ℕ → ℕ → ℕ → Type 0
WrongSpan image from i =
    (offset_of image i < from)
    ⊎ ((length image < end_of image i)
    ⊎ ((k : ℕ) × ((from ≤ k) × ((k < offset_of image i) × (slice_index image k ≢ 0)))))

-- every fault that is true of an image, in no order. Pair 0 is also at fault where there is no directory of four pairs
-- or the set part has not 64 bytes, and pair 3 where its end is not the end of the image
abbrev pub WrongImage : List ℕ → Fault → Type 0
WrongImage image g =
    ((g ≡ Directory 0) × ((length image < 34) ⊎ (count_of image ≢ 4)))
    ⊎ (((g ≡ Directory 0) × (WrongSpan image 34 0 ⊎ (length_of image 0 ≢ 64)))
    ⊎ (((g ≡ Directory 1) × WrongSpan image (end_of image 0) 1)
    ⊎ (((g ≡ Directory 2) × WrongSpan image (end_of image 1) 2)
    ⊎ ((g ≡ Directory 3) × (WrongSpan image (end_of image 2) 3 ⊎ (end_of image 3 ≢ length image))))))
