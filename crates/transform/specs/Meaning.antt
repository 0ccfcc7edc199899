-- The stages of a polynomial give its values.
use Rattle.std.specs.Prelude.{◌≡◌, ℕ, zero, suc, ◌+◌, ◌-◌, ◌*◌, ◌%◌, ◌^◌, ◌<◌, ◌≤◌, List, length, slice_index, slice_index_or}
use Rattle.std.proofs.Common.{sym, ◌∙◌, subst}
use Rattle.std.proofs.Math.Path.{ap}
use native.Mathlib.Nat.{mod-eq_of_lt, pow-succ', pow-zero, pow-suc, mul-one, one-mul, zero-mul, zero-add}
use native.Mathlib.Omega.{arith}
use Rattle.std.proofs.lemmas.List.FromFn.{fill_by_all}
use Rattle.rings.specs.declared.ring.Ring.{Ring}
use Rattle.rings.proofs.Mod.{Same}
use Rattle.kernels.specs.Polynomials.{Below, InRing}
use Rattle.transform.specs.Order.{order}
use Rattle.transform.specs.Stages.{row, staged, runs}
use Rattle.transform.specs.Values.{sum, values}
use Rattle.transform.specs.Holding.{strided, value, power, Holds, Stage, holds_next}
use Rattle.kernels.specs.PlainKernelLemmas.{some}
use Rattle.transform.specs.Rows.{reach_is, row_long, row_roots}
use Rattle.transform.specs.Steps.{staged_long, staged_is, staged_below}
use Rattle.transform.specs.Sums.{sum_is}

-- powers of powers
pub pow_times : (z e i : ℕ) → (z ^ e) ^ i ≡ z ^ (i * e)
pow_times z e zero = pow-zero (z ^ e) ∙ (sym (pow-zero z) ∙ ap (λ j. z ^ j) (sym (zero-mul e)))
pow_times z e (suc i) =
    let s : i * e + e ≡ suc i * e = omega (arith, native.Mathlib.Nat.suc-mul i e) in
    pow-suc (z ^ e) i ∙ (ap (λ j. j * z ^ e) (pow_times z e i) ∙ (sym (lib.Pow.pow-add z (i * e) e) ∙ ap (λ j. z ^ j) s))

module _ (r : Ring) where
  neg : Same r.modulus (r.root ^ (2 * r.half)) (r.modulus - 1)
  neg =
      let l : r.modulus - 1 < r.modulus = omega (arith, r.limits.1) in
      ap (λ i. r.root ^ i % r.modulus) (sym r.range.2) ∙ (r.wraps ∙ sym (mod-eq_of_lt l))

  -- ---- the stages keep length, bound and meaning
  pub runs_long : (s : ℕ) (f : List ℕ) → s ≤ r.log → length f ≡ r.degree → length (runs r s f) ≡ r.degree
  unfolding runs
  runs_long zero f l e = e
  runs_long (suc s) f l e =
      staged_long r.modulus (row s r.half r.roots) (runs r s f) ∙ omega (arith, row_long r s (omega arith), r.range.2)

  pub runs_below : (s : ℕ) (f : List ℕ) → Below r.modulus f → Below r.modulus (runs r s f)
  unfolding runs
  runs_below zero f b = b
  runs_below (suc s) f b =
      let w : List ℕ = row s r.half r.roots in
      let x : List ℕ = runs r s f in
      staged_below r.modulus w x (staged r.modulus w x) (some r) (staged_is r.modulus w x) (staged_long r.modulus w x)

  -- what the array holds after s stages
  abbrev Kept : List ℕ → ℕ → ℕ → List ℕ → Type 0
  Kept f s g x = Holds r.modulus r.root r.degree f s (2 ^ s) g x

  start : (f : List ℕ) → Kept f 0 (2 ^ (r.log - 0)) f
  start f b hb z h =
      let b0 : b ≡ 0 = omega arith in
      let n0 : r.log - 0 ≡ r.log = omega arith in
      let e : 2 ^ (r.log - 0) ≡ r.degree = ap (λ i. 2 ^ i) n0 ∙ sym r.size.0 in
      let place : (k : ℕ) → k * 1 + b ≡ k = λ k. omega arith in
      ap (λ i. i % r.modulus)
      (ap (λ i. strided f 1 b i z) e
      ∙ sum_is r.degree (λ k. slice_index f (k * 1 + b) * z ^ k) (λ k. slice_index f k * z ^ k) (λ k. ap (λ i. slice_index f i * z ^ k) (place k)))

  once : (s : ℕ) (f x : List ℕ) → s < r.log → Kept f s (2 ^ (r.log - s)) x
      → Kept f (suc s) (2 ^ (r.log - suc s)) (staged r.modulus (row s r.half r.roots) x)
  once s f x l before =
      let w : List ℕ = row s r.half r.roots in
      let y : List ℕ = staged r.modulus w x in
      let g : ℕ = 2 ^ (r.log - (s + 1)) in
      let up : suc (r.log - (s + 1)) ≡ r.log - s = omega arith in
      let g2 : 2 ^ (r.log - s) ≡ g + g = ap (λ i. 2 ^ i) (sym up) ∙ (pow-succ' 2 (r.log - (s + 1)) ∙ omega arith) in
      let st : Stage r.modulus r.root s g r.half (r.modulus - 1) w x y =
      record {
        top = omega (arith, r.limits.1);
        neg = neg;
        halves = reach_is r s l;
        long = row_long r s l;
        roots = row_roots r s l;
        done = staged_is r.modulus w x;
      } in
      let b2 : Kept f s (g + g) x = subst (λ (i : ℕ). Kept f s i x) g2 before in
      let nx = holds_next r.modulus r.root s g r.half (r.modulus - 1) w x y st r.degree f b2 in
      let e : r.log - (s + 1) ≡ r.log - suc s = omega arith in
      subst (λ (i : ℕ). Kept f (suc s) (2 ^ i) y) e
      (subst (λ (i : ℕ). Holds r.modulus r.root r.degree f (suc s) i g y) (sym (pow-succ' 2 s)) nx)

  runs_hold : (s : ℕ) (f : List ℕ) → s ≤ r.log → Kept f s (2 ^ (r.log - s)) (runs r s f)
  unfolding runs
  runs_hold zero f l = start f
  runs_hold (suc s) f l = once s f (runs r s f) (omega arith) (runs_hold s f (omega arith))

  -- ---- after the last stage each block is one word
  -- the value at ψ^order, as the form has it
  pub value_is : (p : List ℕ) (k : ℕ)
      → value r.degree p (r.root ^ order r.log k) ≡ sum r.degree (λ i. slice_index p i * r.root ^ (i * order r.log k))
  value_is p k =
      sum_is r.degree (λ i. slice_index p i * (r.root ^ order r.log k) ^ i) (λ i. slice_index p i * r.root ^ (i * order r.log k))
      (λ i. ap (λ j. slice_index p i * j) (pow_times r.root (order r.log k) i))

  last : (f y : List ℕ) → length y ≡ r.degree → Below r.modulus y → Kept f r.log (2 ^ (r.log - r.log)) y
      → (k : ℕ) → k < r.degree → slice_index y k ≡ value r.degree f (r.root ^ order r.log k) % r.modulus
  last f y e below h k l =
      let n0 : r.log - r.log ≡ 0 = omega arith in
      let h1 : Kept f r.log 1 y = subst (λ (i : ℕ). Kept f r.log (2 ^ i) y) n0 h in
      let z : ℕ = r.root ^ order r.log k in
      let z1 : z ^ 1 ≡ r.root ^ power 1 r.log k =
      pow-suc z 0 ∙ (ap (λ i. i * z) (pow-zero z) ∙ (one-mul z ∙ ap (λ i. r.root ^ i) (sym (one-mul (order r.log k))))) in
      let kb : k < 2 ^ r.log = omega (arith, r.size.0) in
      let same = h1 k kb z (ap (λ i. i % r.modulus) z1) in
      let v : ℕ = slice_index_or y (0 * 2 ^ r.log + k) 0 in
      let place : 0 * 2 ^ r.log + k ≡ k = ap (λ i. i + k) (zero-mul (2 ^ r.log)) ∙ zero-add k in
      let at : strided y (2 ^ r.log) k 1 z ≡ slice_index_or y k 0 =
      ap (λ i. 0 + v * i) (pow-zero z) ∙ (ap (λ i. 0 + i) (mul-one v) ∙ (zero-add v ∙ ap (λ i. slice_index y i) place)) in
      sym (mod-eq_of_lt (below k (omega arith))) ∙ (ap (λ i. i % r.modulus) (sym at) ∙ same)

  -- all stages of a polynomial give its form
  pub runs_values : (f : List ℕ) → InRing r f → runs r r.log f ≡ values r f
  unfolding values
  runs_values f h =
      let ll : r.log ≤ r.log = omega arith in
      let y : List ℕ = runs r r.log f in
      let long : length y ≡ r.degree = runs_long r.log f ll h.0 in
      fill_by_all (λ k. sum r.degree (λ i. slice_index f i * r.root ^ (i * order r.log k)) % r.modulus) y r.degree 0 long
      (λ k l. last f y long (runs_below r.log f h.1) (runs_hold r.log f ll) k l ∙ ap (λ i. i % r.modulus) (value_is f k))
