-- All stages and their way back: N times what there was.
use Rattle.std.specs.Prelude.{◌≡◌, ℕ, zero, suc, ◌+◌, ◌-◌, ◌*◌, ◌/◌, ◌%◌, ◌^◌, ◌<◌, ◌≤◌, List, length, ℤ, pos, negsuc, ◌*ℤ◌, slice_index, refl}
use Rattle.std.proofs.Common.{sym, ◌∙◌, div-lt_iff_lt-mul, mod-lt, mod-eq_of_lt, mul-add, mul_comm, add-mul, one-mul, pow-add, pow_pos}
use Rattle.std.proofs.Math.Path.{ap, subst}
use Rattle.std.proofs.Math.Nat.{div-add-mod, mul-add-mod_self_right, pow-succ'}
use native.Mathlib.Omega.{arith}
use Rattle.std.proofs.lemmas.Int.{ints}
use Rattle.algebra.specs.Ints.{Cong}
use Rattle.algebra.proofs.Cong.{same, cong_sym, cong_trans, cong_mul}
use Rattle.algebra.proofs.Ring.{*ℤ-assoc}
use Rattle.algebra.proofs.Bridge.{mod_cong}
use Rattle.rings.specs.declared.ring.Ring.{Ring}
use Rattle.rings.specs.Tables.{mirror}
use Rattle.rings.proofs.Mirrors.{mirror_flip}
use Rattle.kernels.specs.Polynomials.{Below, InRing}
use Rattle.transform.specs.Stages.{row, staged, unstaged, runs, unruns}
use Rattle.transform.specs.Meaning.{runs_long, runs_below}
use Rattle.kernels.specs.PlainKernelLemmas.{some}
use Rattle.transform.specs.Rows.{half_some, reach_is, row_long, root_at}
use Rattle.transform.specs.Steps.{unstaged_long, unstaged_below}
use Rattle.transform.specs.Undo.{Anti, Times, undo, redo}

-- ---- the roots at the two ends of a row
-- their exponents add up to 2^n
pair_up : (n s b c : ℕ) → s < n → b + c + 1 ≡ 2 ^ s
    → 2 ^ (n - (s + 1)) * (2 * mirror s b + 1) + 2 ^ (n - (s + 1)) * (2 * mirror s c + 1) ≡ 2 ^ n
pair_up n s b c l e =
    let g : ℕ = 2 ^ (n - (s + 1)) in
    let m : mirror s b + mirror s c + 1 ≡ 2 ^ s = mirror_flip s b c e in
    let p : 2 ^ suc s ≡ 2 * 2 ^ s = pow-succ' 2 s in
    let k : n - (s + 1) + suc s ≡ n = omega arith in
    let t : (2 * mirror s b + 1) + (2 * mirror s c + 1) ≡ 2 ^ suc s = omega arith in
    sym (mul-add g (2 * mirror s b + 1) (2 * mirror s c + 1))
    ∙ (ap (λ i. g * i) t ∙ (sym (pow-add 2 (n - (s + 1)) (suc s)) ∙ ap (λ i. 2 ^ i) k))

-- the remainders of the two places add up to m - 1
ends : (g m h j : ℕ) → 0 < m → g * m ≡ h → j < h → j % m + (h - 1 - j) % m + 1 ≡ m
ends g m h j m0 e l =
    let c0 : j % m < m = mod-lt j m0 in
    let jd : m * (j / m) + j % m ≡ j = div-add-mod j m in
    let jm : m * (j / m) ≡ j / m * m = mul_comm m (j / m) in
    let dg : j / m < g = (div-lt_iff_lt-mul {k = m} {x = j} {y = g} m0).1 (omega arith) in
    let k : ℕ = g - 1 - j / m in
    let gg : j / m + 1 + (g - 1 - j / m) ≡ g = omega arith in
    let p1 : (j / m + 1 + (g - 1 - j / m)) * m ≡ (j / m + 1) * m + (g - 1 - j / m) * m = add-mul (j / m + 1) (g - 1 - j / m) m in
    let p2 : (j / m + 1) * m ≡ j / m * m + 1 * m = add-mul (j / m) 1 m in
    let p3 : 1 * m ≡ m = one-mul m in
    let p4 : (j / m + 1 + (g - 1 - j / m)) * m ≡ g * m = ap (λ i. i * m) gg in
    let all : h - 1 - j ≡ (g - 1 - j / m) * m + (m - 1 - j % m) = omega arith in
    let lt : m - 1 - j % m < m = omega arith in
    let f : (h - 1 - j) % m ≡ m - 1 - j % m =
    ap (λ i. i % m) all ∙ (mul-add-mod_self_right (g - 1 - j / m) m (m - 1 - j % m) ∙ mod-eq_of_lt lt) in
    omega arith

-- 2^s
abbrev pub twos : ℕ → ℤ
twos zero = pos 1
twos (suc s) = pos 2 *ℤ twos s

pub twos_is : (s : ℕ) → twos s ≡ pos (2 ^ s)
twos_is zero = refl
twos_is (suc s) = ap (λ (i : ℤ). pos 2 *ℤ i) (twos_is s) ∙ ap pos (sym (pow-succ' 2 s))

one_times : (z : ℤ) → z ≡ pos 1 *ℤ z
one_times z = omega (arith, ints)

module _ (r : Ring) where
  abbrev Q : ℕ
  Q = r.modulus

  abbrev row_of : ℕ → List ℕ
  row_of s = row s r.half r.roots

  -- ψ^N is -1
  pub root_turns : Cong r.modulus (pos (r.root ^ r.degree)) (negsuc 0)
  root_turns =
      let m : Cong Q (pos (Q - 1)) (negsuc 0) = record { times = pos 1; is = omega (arith, ints, r.limits.1) } in
      cong_trans Q (cong_sym Q (mod_cong Q (r.root ^ r.degree))) (cong_trans Q (same Q _ _ (ap pos r.wraps)) m)

  pub row_anti : (s : ℕ) → s < r.log → Anti r.modulus (row s r.half r.roots)
  row_anti s l j b =
      let w : List ℕ = row_of s in
      let g : ℕ = 2 ^ (r.log - (s + 1)) in
      let len : length w ≡ r.half = row_long r s l in
      let i : ℕ = length w - 1 - j in
      let jb : j < r.half = omega arith in
      let ib : length w - 1 - j < r.half = omega (arith, half_some r) in
      let en : j % 2 ^ s + (length w - 1 - j) % 2 ^ s + 1 ≡ 2 ^ s =
      ap (λ i. j % 2 ^ s + (i - 1 - j) % 2 ^ s + 1) len ∙ ends g (2 ^ s) r.half j (pow_pos s) (reach_is r s l) jb in
      let e1 : ℕ = g * (2 * mirror s (j % 2 ^ s) + 1) in
      let e2 : ℕ = g * (2 * mirror s ((length w - 1 - j) % 2 ^ s) + 1) in
      let total : e1 + e2 ≡ r.degree = pair_up r.log s (j % 2 ^ s) ((length w - 1 - j) % 2 ^ s) l en ∙ sym r.size.0 in
      let c1 : Cong Q (pos (slice_index w j)) (pos (r.root ^ e1)) =
      cong_trans Q (same Q _ _ (ap pos (root_at r s j l jb))) (mod_cong Q (r.root ^ e1)) in
      let c2 : Cong Q (pos (slice_index w (length w - 1 - j))) (pos (r.root ^ e2)) =
      cong_trans Q (same Q _ _ (ap pos (root_at r s (length w - 1 - j) l ib))) (mod_cong Q (r.root ^ e2)) in
      let pw : r.root ^ e1 * r.root ^ e2 ≡ r.root ^ r.degree = sym (pow-add r.root e1 e2) ∙ ap (λ i. r.root ^ i) total in
      cong_trans Q (cong_mul Q c1 c2) (cong_trans Q (same Q _ _ (ap pos pw)) root_turns)

  -- ---- the way back keeps length and bound
  pub unruns_below : (s : ℕ) (y : List ℕ) → Below r.modulus y → Below r.modulus (unruns r s y)
  unfolding unruns
  unruns_below zero y b = b
  unruns_below (suc s) y b = unstaged_below Q (row_of (r.log - suc s)) (unruns r s y) (some r)

  pub unruns_long : (s : ℕ) (y : List ℕ) → s ≤ r.log → length y ≡ r.degree → length (unruns r s y) ≡ r.degree
  unfolding unruns
  unruns_long zero y l e = e
  unruns_long (suc s) y l e =
      unstaged_long Q (row_of (r.log - suc s)) (unruns r s y) ∙ omega (arith, row_long r (r.log - suc s) (omega arith), r.range.2)

  -- ---- s stages taken back from all stages of f are 2^s times the other stages of f
  pub back_runs : (f : List ℕ) → InRing r f → (s t : ℕ) → s + t ≡ r.log
      → Times r.modulus (twos s) r.degree (unruns r s (runs r r.log f)) (runs r t f)
  unfolding unruns runs
  back_runs f h zero t a =
      let te : r.log ≡ t = omega arith in
      λ k l. same Q _ _ (one_times (pos (slice_index (runs r r.log f) k)) ∙ ap (λ (i : ℕ). pos 1 *ℤ pos (slice_index (runs r i f) k)) te)
  back_runs f h (suc s) t a =
      let tl : t < r.log = omega arith in
      let w : List ℕ = row_of t in
      let len : length w ≡ r.half = row_long r t tl in
      let all : List ℕ = runs r r.log f in
      let z : List ℕ = unruns r s all in
      let te : t ≡ r.log - suc s = omega arith in
      let ih : Times Q (twos s) r.degree z (runs r (suc t) f) = back_runs f h s (suc t) (omega arith) in
      let zb : Below Q z = unruns_below s all (runs_below r r.log f h.1) in
      let zl : length z ≡ r.degree = unruns_long s all (omega arith) (runs_long r r.log f (omega arith) h.0) in
      let un : Times Q (pos 2 *ℤ twos s) (2 * length w) (unstaged Q w z) (runs r t f) =
      undo Q (some r) w (runs r t f) z (twos s) (row_anti t tl)
      (λ k l. omega (arith, zb k (omega (arith, r.range.2)))) (λ k l. ih k (omega (arith, r.range.2))) in
      subst (λ (i : ℕ). Times Q (pos 2 *ℤ twos s) r.degree (unstaged Q (row_of i) z) (runs r t f)) te
      (λ k l. un k (omega (arith, r.range.2)))

  -- ---- s stages of p, which is c times all stages taken back from y, are 2^s c times the other stages taken back
  pub runs_back : (y p : List ℕ) (c : ℤ) → InRing r y → Times r.modulus c r.degree p (unruns r r.log y)
      → (s t : ℕ) → s + t ≡ r.log → Times r.modulus (twos s *ℤ c) r.degree (runs r s p) (unruns r t y)
  unfolding unruns runs
  runs_back y p c h times zero t a =
      let te : r.log ≡ t = omega arith in
      λ k l. cong_trans Q (times k l)
      (same Q _ _ (ap (λ (i : ℕ). c *ℤ pos (slice_index (unruns r i y) k)) te ∙ ap (λ (i : ℤ). i *ℤ pos (slice_index (unruns r t y) k)) (one_times c)))
  runs_back y p c h times (suc s) t a =
      let sl : s < r.log = omega arith in
      let w : List ℕ = row_of s in
      let len : length w ≡ r.half = row_long r s sl in
      let z : List ℕ = runs r s p in
      let u : List ℕ = unruns r t y in
      let se : r.log - suc t ≡ s = omega arith in
      let ih : Times Q (twos s *ℤ c) r.degree z (unstaged Q (row_of (r.log - suc t)) u) =
      runs_back y p c h times s (suc t) (omega arith) in
      let ih' : Times Q (twos s *ℤ c) r.degree z (unstaged Q w u) =
      subst (λ (i : ℕ). Times Q (twos s *ℤ c) r.degree z (unstaged Q (row_of i) u)) se ih in
      let ub : Below Q u = unruns_below t y h.1 in
      let ul : length u ≡ r.degree = unruns_long t y (omega arith) h.0 in
      let re : Times Q (pos 2 *ℤ (twos s *ℤ c)) (2 * length w) (staged Q w z) u =
      redo Q (some r) w u z (twos s *ℤ c) (row_anti s sl)
      (λ k l. omega (arith, ub k (omega (arith, r.range.2)))) (λ k l. ih' k (omega (arith, r.range.2))) in
      λ k l. cong_trans Q (re k (omega (arith, r.range.2)))
      (same Q _ _ (ap (λ (i : ℤ). i *ℤ pos (slice_index u k)) (sym (*ℤ-assoc (pos 2) (twos s) c))))
