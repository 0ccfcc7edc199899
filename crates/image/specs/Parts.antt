-- The parts that an image hands out.
use Rattle.std.specs.Prelude.{◌≡◌, ℕ, List}
use Rattle.image.specs.declared.part.Part.{Part}
use Rattle.image.specs.declared.part.Part.TheVariants.{Set, Start, Selectors, Rows}
use Rattle.image.specs.declared.part.Parts.{Parts}
use Rattle.image.specs.Directory.{part_at}

-- the bytes of a part
abbrev pub bytes_of : Part → List ℕ
bytes_of (Set b) = b.now
bytes_of (Start b) = b.now
bytes_of (Selectors b) = b.now
bytes_of (Rows b) = b.now

-- a part as its tag says it, with its bytes
pub data Shown : Type 0 where
  a_set : List ℕ → Shown
  a_start : List ℕ → Shown
  a_selectors : List ℕ → Shown
  a_rows : List ℕ → Shown

abbrev pub shown : Part → Shown
shown (Set b) = a_set b.now
shown (Start b) = a_start b.now
shown (Selectors b) = a_selectors b.now
shown (Rows b) = a_rows b.now

-- the four parts of an image, in order
pub record PartsOf (image : List ℕ) (p : Parts) : Type 0 where
  pub zeroth : shown p.set ≡ a_set (part_at image 0)
  pub first : shown p.start ≡ a_start (part_at image 1)
  pub second : shown p.selectors ≡ a_selectors (part_at image 2)
  pub third : shown p.rows ≡ a_rows (part_at image 3)
