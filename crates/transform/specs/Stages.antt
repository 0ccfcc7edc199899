-- The stages of the fast transform, in the layout that keeps its geometry: j and j + h go to 2 j and 2 j + 1.
use Rattle.std.specs.Prelude.{◌≡◌, ℕ, zero, suc, ◌+◌, ◌-◌, ◌*◌, ◌/◌, ◌%◌, ◌^◌, ◌<◌, cond, List, map, length, take, drop, ◌==◌, nat_lt, slice_index}
use Rattle.std.specs.List.{range_with_len}
use Rattle.rings.specs.declared.ring.Ring.{Ring}

-- the roots w lie below Q, and ws has their quotients
abbrev pub Quotients : ℕ → List ℕ → List ℕ → Type 0
Quotients Q w ws = (k : ℕ) → k < length w → (slice_index w k < Q) × (slice_index ws k ≡ slice_index w k * 2 ^ 32 / Q)

-- what stands at 2 j and at 2 j + 1 after a stage with the roots w
abbrev pub plus : ℕ → List ℕ → List ℕ → ℕ → ℕ
plus Q w x j = (slice_index x j + slice_index x (j + length w) * slice_index w j % Q) % Q

abbrev pub minus : ℕ → List ℕ → List ℕ → ℕ → ℕ
minus Q w x j = (slice_index x j + (Q - slice_index x (j + length w) * slice_index w j % Q)) % Q

-- y is x after the stage, up to the pair n
abbrev pub Staged : ℕ → List ℕ → List ℕ → List ℕ → ℕ → Type 0
Staged Q w x y n = (j : ℕ) → j < n → (slice_index y (2 * j) ≡ plus Q w x j) × (slice_index y (2 * j + 1) ≡ minus Q w x j)

unfoldable pub staged : ℕ → List ℕ → List ℕ → List ℕ
staged Q w x = map (λ k. cond (k % 2 == 0) (plus Q w x (k / 2)) (minus Q w x (k / 2))) (range_with_len 0 (2 * length w))

-- what stood at j and at j + h before a stage, up to a factor 2
abbrev pub sums : ℕ → List ℕ → ℕ → ℕ
sums Q y j = (slice_index y (2 * j) + slice_index y (2 * j + 1)) % Q

abbrev pub diffs : ℕ → List ℕ → List ℕ → ℕ → ℕ
diffs Q w y j = (slice_index y (2 * j + 1) + (Q - slice_index y (2 * j))) * slice_index w (length w - 1 - j) % Q

-- x is y before the stage, up to the pair n
abbrev pub Unstaged : ℕ → List ℕ → List ℕ → List ℕ → ℕ → Type 0
Unstaged Q w y x n = (j : ℕ) → j < n → (slice_index x j ≡ sums Q y j) × (slice_index x (j + length w) ≡ diffs Q w y j)

unfoldable pub unstaged : ℕ → List ℕ → List ℕ → List ℕ
unstaged Q w y = map (λ k. cond (nat_lt k (length w)) (sums Q y k) (diffs Q w y (k - length w))) (range_with_len 0 (2 * length w))

-- row s of a table of rows of h words
abbrev pub row : ℕ → ℕ → List ℕ → List ℕ
row s h w = take h (drop (s * h) w)

-- the first s stages
unfoldable pub runs : Ring → ℕ → List ℕ → List ℕ
runs r zero f = f
runs r (suc s) f = staged r.modulus (row s r.half r.roots) (runs r s f)

-- the last s stages taken back
unfoldable pub unruns : Ring → ℕ → List ℕ → List ℕ
unruns r zero y = y
unruns r (suc s) y = unstaged r.modulus (row (r.log - suc s) r.half r.roots) (unruns r s y)
