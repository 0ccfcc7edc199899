-- The rows of a ring's tables.
use Rattle.std.specs.Prelude.{◌≡◌, ℕ, ◌+◌, ◌-◌, ◌*◌, ◌/◌, ◌%◌, ◌^◌, ◌<◌, ◌≤◌, List, length, drop, slice_index, slice_index_or}
use Rattle.std.proofs.Common.{sym, ◌∙◌, ap, mod-lt, mod-eq_of_lt, add-zero, arith, pow-add, length-take, length-drop, get_or-take, get_or-drop}
use Rattle.std.proofs.Math.Nat.{mod-mod, mul-add-div_right, mul-add-mod_self_right, div-eq_of_lt}
use Rattle.std.proofs.lemmas.Nat.{mul-add-lt}
use Rattle.rings.specs.declared.ring.Ring.{Ring}
use Rattle.rings.specs.Tables.{mirror, exponent}
use Rattle.rings.proofs.Built.{table_fits}
use Rattle.kernels.specs.PlainKernelLemmas.{some}
use Rattle.transform.specs.Stages.{Quotients, row}
use Rattle.transform.specs.Holding.{Roots}

pub row_at : (s h : ℕ) (w : List ℕ) (j : ℕ) → j < h → slice_index (row s h w) j ≡ slice_index w (s * h + j)
row_at s h w j l = get_or-take h (drop (s * h) w) j 0 l ∙ get_or-drop (s * h) w j 0

-- place j of row s lies in a table of n rows
in_table : (n h s j : ℕ) → s < n → j < h → s * h + j < n * h
in_table n h s j l b = omega (arith, mul-add-lt s h j n l b)

exponent_at : (n h s j : ℕ) → j < h → exponent n h (s * h + j) ≡ 2 ^ (n - 1 - s) * (2 * mirror s (j % 2 ^ s) + 1)
unfolding exponent
exponent_at n h s j l =
    let h0 : 0 < h = omega arith in
    let d : (s * h + j) / h ≡ s = mul-add-div_right h0 s j ∙ (ap (λ i. s + i) (div-eq_of_lt l) ∙ add-zero s) in
    let m : (s * h + j) % h ≡ j = mul-add-mod_self_right s h j ∙ mod-eq_of_lt l in
    ap (λ i. 2 ^ (n - 1 - i) * (2 * mirror i ((s * h + j) % h % 2 ^ i) + 1)) d
    ∙ ap (λ i. 2 ^ (n - 1 - s) * (2 * mirror s (i % 2 ^ s) + 1)) m

module _ (r : Ring) where
  pub half_some : 0 < r.half
  half_some = omega (arith, r.range.0, r.range.2)

  pub reach_is : (s : ℕ) → s < r.log → 2 ^ (r.log - (s + 1)) * 2 ^ s ≡ r.half
  reach_is s l =
      let e : r.log - (s + 1) + s ≡ r.log - 1 = omega arith in
      sym (pow-add 2 (r.log - (s + 1)) s) ∙ (ap (λ i. 2 ^ i) e ∙ sym r.size.1)

  pub row_fits : (s : ℕ) → s < r.log → s * r.half + r.half ≤ 5120
  row_fits s l =
      let h0 : 0 < r.half = half_some in
      let j : r.half - 1 < r.half = omega arith in
      let a : s * r.half + (r.half - 1) < r.log * r.half = in_table r.log r.half s (r.half - 1) l j in
      omega (arith, table_fits r.log r.half r.size.3 r.size.1)

  pub row_long : (s : ℕ) → s < r.log → length (row s r.half r.roots) ≡ r.half
  row_long s l =
      let f = row_fits s l in
      let e = r.long.0 in
      simp (length-take, length-drop) (omega arith)

  -- what stands at place j of row s
  pub root_at : (s j : ℕ) → s < r.log → j < r.half
      → slice_index (row s r.half r.roots) j ≡ r.root ^ (2 ^ (r.log - (s + 1)) * (2 * mirror s (j % 2 ^ s) + 1)) % r.modulus
  root_at s j l b =
      let e : r.log - 1 - s ≡ r.log - (s + 1) = omega arith in
      row_at s r.half r.roots j b
      ∙ (r.powers (s * r.half + j) (in_table r.log r.half s j l b)
      ∙ (ap (λ i. r.root ^ i % r.modulus) (exponent_at r.log r.half s j b)
      ∙ ap (λ i. r.root ^ (2 ^ i * (2 * mirror s (j % 2 ^ s) + 1)) % r.modulus) e))

  pub row_roots : (s : ℕ) → s < r.log
      → Roots r.modulus r.root s (2 ^ (r.log - (s + 1))) (row s r.half r.roots)
  row_roots s l j b =
      let jb : j < r.half = omega (arith, row_long s l) in
      ap (λ i. i % r.modulus) (root_at s j l jb) ∙ mod-mod (r.root ^ (2 ^ (r.log - (s + 1)) * (2 * mirror s (j % 2 ^ s) + 1))) r.modulus

  pub row_quotients : (s : ℕ) (w ws : List ℕ) → s < r.log → w ≡ row s r.half r.roots → ws ≡ row s r.half r.quotients
      → length w ≡ r.half → Quotients r.modulus w ws
  row_quotients s w ws l e f len j b =
      let jb : j < r.half = omega arith in
      let x : slice_index_or w j 0 ≡ r.root ^ (2 ^ (r.log - (s + 1)) * (2 * mirror s (j % 2 ^ s) + 1)) % r.modulus =
      ap (λ i. slice_index i j) e ∙ root_at s j l jb in
      let y : slice_index_or w j 0 ≡ slice_index_or r.roots (s * r.half + j) 0 = ap (λ i. slice_index i j) e ∙ row_at s r.half r.roots j jb in
      let z : slice_index_or ws j 0 ≡ slice_index_or r.quotients (s * r.half + j) 0 = ap (λ i. slice_index i j) f ∙ row_at s r.half r.quotients j jb in (
        omega (arith, x, mod-lt (r.root ^ (2 ^ (r.log - (s + 1)) * (2 * mirror s (j % 2 ^ s) + 1))) (some r)),
        z ∙ (r.shoup (s * r.half + j) (in_table r.log r.half s j l jb) ∙ ap (λ i. i * 4294967296 / r.modulus) (sym y)),
      )
