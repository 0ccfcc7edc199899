-- Polynomials kept one after the other in one list of words.
use Rattle.std.specs.Prelude.{ℕ, ◌*◌, ◌<◌, List, [], map, length, take, drop, slice_index_or}
use Rattle.std.specs.List.{range_with_len}
use Rattle.kernels.specs.Polynomials.{IsPoly}

-- the i-th N words
abbrev pub row_of : ℕ → List ℕ → ℕ → List ℕ
row_of N ws i = take N (drop (i * N) ws)

-- what `count` rows of N words read as
unfoldable pub read_rows : (List ℕ → List ℕ) → ℕ → ℕ → List ℕ → List (List ℕ)
read_rows reads N count ws = map (λ i. reads (row_of N ws i)) (range_with_len 0 count)

-- each of a list of polynomials has N words below Q
abbrev pub ArePolys : ℕ → ℕ → List (List ℕ) → Type 0
ArePolys N Q ps = (i : ℕ) → i < length ps → IsPoly N Q (slice_index_or ps i [])
