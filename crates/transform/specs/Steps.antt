-- Stages as lists.
use Rattle.std.specs.Prelude.{◌≡◌, ℕ, suc, ◌+◌, ◌-◌, ◌*◌, ◌/◌, ◌%◌, ◌<◌, ◌≤◌, Bool, cond, List, length, ◌==◌, nat_lt, slice_index}
use Rattle.std.proofs.Math.Path.{sym, ap}
use Rattle.std.proofs.Common.{◌∙◌, mod-lt, lt-ltb, le-ltb}
use native.Mathlib.Omega.{arith}
use Rattle.std.proofs.lemmas.List.FromFn.{length-map-range_with_len, get_or-map-range_with_len, fill_by_all}
use Rattle.rings.specs.declared.ring.Ring.{Ring}
use Rattle.kernels.specs.Polynomials.{Below}
use Rattle.transform.specs.Stages.{plus, minus, Staged, staged, sums, diffs, Unstaged, unstaged, row, runs, unruns}
use Rattle.transform.specs.Pairs.{by_half, by_pair}

-- ---- one stage
module _ (Q : ℕ) (w x : List ℕ) where
  abbrev either : ℕ → ℕ
  either k = cond (k % 2 == 0) (plus Q w x (k / 2)) (minus Q w x (k / 2))

  even : (j : ℕ) → either (2 * j) ≡ plus Q w x j
  even j =
      let a : 2 * j / 2 ≡ j = omega arith in
      let m : 2 * j % 2 ≡ 0 = omega arith in
      ap (λ i. cond (i == 0) (plus Q w x (2 * j / 2)) (minus Q w x (2 * j / 2))) m ∙ ap (λ i. plus Q w x i) a

  odd : (j : ℕ) → either (2 * j + 1) ≡ minus Q w x j
  odd j =
      let a : (2 * j + 1) / 2 ≡ j = omega arith in
      let m : (2 * j + 1) % 2 ≡ 1 = omega arith in
      ap (λ i. cond (i == 0) (plus Q w x ((2 * j + 1) / 2)) (minus Q w x ((2 * j + 1) / 2))) m ∙ ap (λ i. minus Q w x i) a

  pub staged_long : length (staged Q w x) ≡ 2 * length w
  unfolding staged
  staged_long = length-map-range_with_len either 0 (2 * length w)

  pub staged_is : Staged Q w x (staged Q w x) (length w)
  unfolding staged
  staged_is j h = (
    get_or-map-range_with_len either 0 (2 * length w) (2 * j) (2 * j) 0 (omega arith) (omega arith) ∙ even j,
    get_or-map-range_with_len either 0 (2 * length w) (2 * j + 1) (2 * j + 1) 0 (omega arith) (omega arith) ∙ odd j,
  )

  pub staged_from : (y : List ℕ) → length y ≡ 2 * length w → Staged Q w x y (length w) → y ≡ staged Q w x
  unfolding staged
  staged_from y e done =
      fill_by_all either y (2 * length w) 0 e
      (by_pair (length w) (λ k. slice_index y k ≡ either k) (λ j l. ((done j l).0 ∙ sym (even j), (done j l).1 ∙ sym (odd j))))

  pub staged_below : (y : List ℕ) → 0 < Q → Staged Q w x y (length w) → length y ≡ 2 * length w → Below Q y
  staged_below y q0 done e k h =
      by_pair (length w) (λ i. slice_index y i < Q)
      (λ j l. (
        omega (arith, (done j l).0, mod-lt (slice_index x j + slice_index x (j + length w) * slice_index w j % Q) q0),
        omega (arith, (done j l).1, mod-lt (slice_index x j + (Q - slice_index x (j + length w) * slice_index w j % Q)) q0),
      ))
      k (omega arith)

-- ---- one stage taken back
module _ (Q : ℕ) (w y : List ℕ) where
  abbrev part : ℕ → ℕ
  part k = cond (nat_lt k (length w)) (sums Q y k) (diffs Q w y (k - length w))

  low_part : (j : ℕ) → j < length w → part j ≡ sums Q y j
  low_part j h = ap (λ (i : Bool). cond i (sums Q y j) (diffs Q w y (j - length w))) (lt-ltb j (length w) h)

  high_part : (j : ℕ) → part (j + length w) ≡ diffs Q w y j
  high_part j =
      let e : j + length w - length w ≡ j = omega arith in
      let l : length w ≤ j + length w = omega arith in
      ap (λ (i : Bool). cond i (sums Q y (j + length w)) (diffs Q w y (j + length w - length w))) (le-ltb (j + length w) (length w) l)
      ∙ ap (λ (i : ℕ). diffs Q w y i) e

  pub unstaged_long : length (unstaged Q w y) ≡ 2 * length w
  unfolding unstaged
  unstaged_long = length-map-range_with_len part 0 (2 * length w)

  pub unstaged_is : Unstaged Q w y (unstaged Q w y) (length w)
  unfolding unstaged
  unstaged_is j h = (
    get_or-map-range_with_len part 0 (2 * length w) j j 0 (omega arith) (omega arith) ∙ low_part j h,
    get_or-map-range_with_len part 0 (2 * length w) (j + length w) (j + length w) 0 (omega arith) (omega arith) ∙ high_part j,
  )

  pub unstaged_from : (x : List ℕ) → length x ≡ 2 * length w → Unstaged Q w y x (length w) → x ≡ unstaged Q w y
  unfolding unstaged
  unstaged_from x e done =
      fill_by_all part x (2 * length w) 0 e
      (by_half (length w) (λ k. slice_index x k ≡ part k) (λ j h. ((done j h).0 ∙ sym (low_part j h), (done j h).1 ∙ sym (high_part j))))

  pub unstaged_below : 0 < Q → Below Q (unstaged Q w y)
  unstaged_below q0 k h =
      by_half (length w) (λ i. slice_index (unstaged Q w y) i < Q)
      (λ j l. (
        omega (arith, (unstaged_is j l).0, mod-lt (slice_index y (2 * j) + slice_index y (2 * j + 1)) q0),
        omega (arith, (unstaged_is j l).1, mod-lt ((slice_index y (2 * j + 1) + (Q - slice_index y (2 * j))) * slice_index w (length w - 1 - j)) q0),
      ))
      k (omega (arith, unstaged_long))

-- ---- the stages of a ring, one after the other
module _ (r : Ring) where
  pub runs_none : (s : ℕ) (f : List ℕ) → s ≡ 0 → f ≡ runs r s f
  unfolding runs
  runs_none s f e = ap (λ (i : ℕ). runs r i f) {x = 0} {y = s} (sym e)

  pub runs_more : (s t : ℕ) (f x y : List ℕ) → t ≡ s + 1 → x ≡ runs r s f → y ≡ staged r.modulus (row s r.half r.roots) x
      → y ≡ runs r t f
  unfolding runs
  runs_more s t f x y e h g =
      g ∙ (ap (λ (i : List ℕ). staged r.modulus (row s r.half r.roots) i) h ∙ ap (λ (i : ℕ). runs r i f) {x = suc s} {y = t} (omega arith))

  pub unruns_none : (s : ℕ) (y : List ℕ) → s ≡ 0 → y ≡ unruns r s y
  unfolding unruns
  unruns_none s y e = ap (λ (i : ℕ). unruns r i y) {x = 0} {y = s} (sym e)

  pub unruns_more : (s t i : ℕ) (y x z : List ℕ) → t ≡ s + 1 → i ≡ r.log - t → x ≡ unruns r s y
      → z ≡ unstaged r.modulus (row i r.half r.roots) x → z ≡ unruns r t y
  unfolding unruns
  unruns_more s t i y x z e f h g =
      let k : i ≡ r.log - suc s = omega arith in
      g ∙ (ap (λ (a : List ℕ). unstaged r.modulus (row i r.half r.roots) a) h
      ∙ (ap (λ (j : ℕ). unstaged r.modulus (row j r.half r.roots) (unruns r s y)) k
      ∙ ap (λ (j : ℕ). unruns r j y) {x = suc s} {y = t} (omega arith)))
