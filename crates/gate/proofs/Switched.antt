-- The switch, from what is added modulo 2^32.
use Rattle.std.proofs.Common.{◌≡◌, ℕ, suc, ◌+◌, ◌-◌, ◌*◌, ◌/◌, ◌%◌, ◌^◌, ◌<◌, Bool, true, false, cond, eqb, List, length, get_or, take, drop, set, replicate, ℤ, pos, ◌+ℤ◌, ◌*ℤ◌, sym, ap, ◌∙◌, subst, ap₂, arith, length-set, eq-eqb, ne_eqb}
use native.Mathlib.Decide.{ℕ_discrete}
use native.Mathlib.Nat.{div-add-mod}
use lib.ListN.{length-replicate}
use Rattle.std.proofs.lemmas.List.{get_or-set_same, get_or-set_other, get_or-replicate, get_or-take}
use Rattle.algebra.specs.Ints.{Cong, sum_z}
use Rattle.algebra.specs.Digits.{word_digit}
use Rattle.algebra.specs.Gates.{switched, switch}
use Rattle.algebra.proofs.Bridge.{mod_cong}
use Rattle.algebra.proofs.Cong.{same, cong_refl, cong_sym, cong_trans, cong_add}
use Rattle.algebra.proofs.Sums.{sum_same}
use Rattle.algebra.proofs.Words.{words_from}
use Rattle.words.specs.Digits.{scaled_of, split_of}
use Rattle.words.specs.declared.gadget.Gadget.{Gadget}
use Rattle.words.proofs.Filling.{digits_at}
use Rattle.kernels.specs.Polynomials.{reduced}
use Rattle.kernels.specs.Reduced.{reduced_at, reduced_poly}
use Rattle.gate.specs.Stages.{Added, row_at, split_by, all_rows_of, switch_words}
use Rattle.gate.proofs.Places.{head_at}
use Rattle.gate.proofs.Rows.{cong_down}

-- zeros, and a word at the last place
start_at : (n b t : ℕ) → t < n + 1 → get_or (set (replicate (n + 1) 0) n b) t 0 ≡ cond (eqb t n) b 0
start_at n b t l = elim (ℕ_discrete t n) [
  | yes e ↦ ap (λ (i : ℕ). get_or (set (replicate (n + 1) 0) n b) i 0) e
      ∙ get_or-set_same (replicate (n + 1) 0) n b 0 (rw length-replicate (omega arith))
      ∙ ap (λ (x : Bool). cond x b 0) (sym (eq-eqb t n e))
  | no d ↦ get_or-set_other (replicate (n + 1) 0) n t b 0 d ∙ get_or-replicate (n + 1) t 0 0 l
      ∙ ap (λ (x : Bool). cond x b 0) (sym (ne_eqb t n d))
]

-- the digits of a word are those of its remainder
digit_of_lem : (g : Gadget) (x i : ℕ) → 2 ^ g.shift ≡ 1 → i < g.digits
    → get_or (split_by g x) i (pos 0) ≡ word_digit g.modulus.value 1 (2 ^ g.width) g.digits (x % g.modulus.value) i
digit_of_lem g x i e l =
    ap (λ (P : ℕ). get_or (split_of g.modulus.value P (2 ^ g.width) g.digits x) i (pos 0)) e
    ∙ digits_at (2 ^ g.width) g.digits (scaled_of g.modulus.value 1 x) i l

module _ (g : Gadget) (N n : ℕ) (xs rows start mid : List ℕ) (whole : 2 ^ g.shift ≡ 1) (divides : 2 ^ 32 % g.modulus.value ≡ 0)
    (from : start ≡ set (replicate (n + 1) 0) n (get_or xs N 0)) (long : length mid ≡ n + 1)
    (added : Added start mid (λ t. sum_z N (λ j. all_rows_of g (take (N - 0) (drop 0 xs)) (n + 1) rows j t))) where
  some : 0 < g.modulus.value
  some = omega (arith, g.modulus.low)

  term : (t j : ℕ) → t < n + 1 → j < N → (i : ℕ) → i < g.digits
      → get_or (split_by g (get_or (take (N - 0) (drop 0 xs)) j 0)) i (pos 0) *ℤ pos (get_or rows (j * (g.digits * (n + 1)) + (i * (n + 1) + t)) 0)
      ≡ word_digit g.modulus.value 1 (2 ^ g.width) g.digits (get_or (reduced (suc N) g.modulus.value xs) j 0) i *ℤ row_at g.digits (n + 1) rows j i t
  term t j lt lj i li =
      let x : get_or (take (N - 0) (drop 0 xs)) j 0 ≡ get_or xs j 0 = get_or-take (N - 0) xs j 0 (omega arith) in
      let r : get_or (reduced (suc N) g.modulus.value xs) j 0 ≡ get_or xs j 0 % g.modulus.value = reduced_at (suc N) g.modulus.value xs j (omega arith) in
      let p : j * (g.digits * (n + 1)) + (i * (n + 1) + t) ≡ (j * g.digits + i) * (n + 1) + t = omega arith in
      ap₂ (λ (d : ℤ) (k : ℕ). d *ℤ pos (get_or rows k 0))
      (ap (λ (w : ℕ). get_or (split_by g w) i (pos 0)) x ∙ digit_of_lem g (get_or xs j 0) i whole li
      ∙ ap (λ (w : ℕ). word_digit g.modulus.value 1 (2 ^ g.width) g.digits w i) (sym r)) p

  head : (t : ℕ) → t < n + 1 → Cong g.modulus.value (pos (get_or start t 0)) (cond (eqb t n) (pos (get_or (reduced (suc N) g.modulus.value xs) N 0)) (pos 0))
  head t l =
      let b : ℕ = get_or xs N 0 in
      let r : get_or (reduced (suc N) g.modulus.value xs) N 0 ≡ get_or xs N 0 % g.modulus.value = reduced_at (suc N) g.modulus.value xs N (omega arith) in
      cong_trans g.modulus.value (same g.modulus.value _ _ (ap (λ (ws : List ℕ). pos (get_or ws t 0)) from ∙ ap pos (start_at n b t l) ∙ head_at t n b))
      (elim (eqb t n) as (λ c. Cong g.modulus.value (cond c (pos (get_or xs N 0)) (pos 0)) (cond c (pos (get_or (reduced (suc N) g.modulus.value xs) N 0)) (pos 0))) [
        | true ↦ cong_trans g.modulus.value (cong_sym g.modulus.value (mod_cong g.modulus.value b)) (same g.modulus.value _ _ (ap pos (sym r)))
        | false ↦ cong_refl g.modulus.value (pos 0)
      ])

  at : (t : ℕ) → t < n + 1 → Cong g.modulus.value (pos (get_or (reduced (n + 1) g.modulus.value mid) t 0))
      (switched N n g.digits (λ j. word_digit g.modulus.value 1 (2 ^ g.width) g.digits (get_or (reduced (suc N) g.modulus.value xs) j 0)) (row_at g.digits (n + 1) rows) (pos (get_or (reduced (suc N) g.modulus.value xs) N 0)) t)
  at t l =
      let R : ℕ = g.modulus.value in
      let K : ℕ = 2 ^ 32 / g.modulus.value in
      let e : 2 ^ 32 ≡ g.modulus.value * (2 ^ 32 / g.modulus.value) = omega (arith, div-add-mod (2 ^ 32) g.modulus.value) in
      let len : length start ≡ n + 1 = ap length from ∙ length-set (replicate (n + 1) 0) n (get_or xs N 0) ∙ length-replicate (n + 1) 0 in
      let a = added t (omega arith) in
      cong_trans R (same R _ _ (ap pos (reduced_at (n + 1) R mid t l)))
      (cong_trans R (mod_cong R (get_or mid t 0))
      (cong_trans R (cong_down R K _ _ (subst (λ (m : ℕ). Cong m (pos (get_or mid t 0)) (pos (get_or start t 0) +ℤ sum_z N (λ j. all_rows_of g (take (N - 0) (drop 0 xs)) (n + 1) rows j t))) e a))
      (cong_add R (head t l) (same R _ _ (sum_same N _ _ (λ j lj. sum_same g.digits _ _ (λ i li. term t j l lj i li)))))))

  pub switched_from : reduced (n + 1) g.modulus.value mid ≡ switch_words N n g.modulus.value (2 ^ g.width) g.digits rows xs
  unfolding switch_words switch
  switched_from =
      let p = reduced_poly (n + 1) g.modulus.value mid some in
      words_from (suc n) g.modulus.value _ (reduced (n + 1) g.modulus.value mid) (omega (arith, p.0))
      (λ t l. p.1 t (omega (arith, p.0))) (λ t l. at t (omega arith))
