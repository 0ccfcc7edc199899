-- The bytes of the parts that an image hands out.
use Rattle.std.proofs.Common.{◌≡◌, ℕ, List, refl, ap, ◌∙◌}
use Rattle.image.specs.declared.part.Part.{Part}
use Rattle.image.specs.declared.part.Part.TheVariants.{Set, Start, Selectors, Rows}
use Rattle.image.specs.declared.part.Parts.{Parts}
use Rattle.image.specs.Directory.{part_at}
use Rattle.image.specs.Parts.{bytes_of, Shown, a_set, a_start, a_selectors, a_rows, shown, PartsOf}

abbrev shown_bytes : Shown → List ℕ
shown_bytes (a_set b) = b
shown_bytes (a_start b) = b
shown_bytes (a_selectors b) = b
shown_bytes (a_rows b) = b

bytes_shown : (p : Part) → bytes_of p ≡ shown_bytes (shown p)
bytes_shown (Set b) = refl
bytes_shown (Start b) = refl
bytes_shown (Selectors b) = refl
bytes_shown (Rows b) = refl

module _ (image : List ℕ) (p : Parts) (h : PartsOf image p) where
  pub set_bytes : bytes_of p.set ≡ part_at image 0
  set_bytes = bytes_shown p.set ∙ ap shown_bytes h.zeroth

  pub start_bytes : bytes_of p.start ≡ part_at image 1
  start_bytes = bytes_shown p.start ∙ ap shown_bytes h.first

  pub selector_bytes : bytes_of p.selectors ≡ part_at image 2
  selector_bytes = bytes_shown p.selectors ∙ ap shown_bytes h.second

  pub row_bytes : bytes_of p.rows ≡ part_at image 3
  row_bytes = bytes_shown p.rows ∙ ap shown_bytes h.third
