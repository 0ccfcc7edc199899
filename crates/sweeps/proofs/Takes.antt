-- Sums of products of digits and keys, term by term, and with congruent factors.
use Rattle.std.proofs.Common.{◌≡◌, ℕ, ◌+◌, ◌*◌, ◌<◌, ◌≤◌, List, [], map, get_or, pos, ◌+ℤ◌, sym, refl, ap, ◌∙◌, add-one, arith}
use Rattle.std.specs.List.{range_with_len}
use Rattle.std.proofs.lemmas.List.FromFn.{get_or-map-range_with_len}
use Rattle.rings.specs.declared.ring.Ring.{Ring}
use Rattle.set.specs.declared.numbers.Numbers.{Numbers}
use Rattle.set.specs.declared.checked.Set.{Set}
use Rattle.algebra.specs.Ints.{sum_z}
use Rattle.algebra.specs.Polys.{Poly, Alike, plus, mul}
use Rattle.algebra.specs.Keys.{taken}
use Rattle.algebra.specs.Words.{coeffs, words, fused}
use Rattle.algebra.proofs.Cong.{same, cong_refl, cong_add, cong_sum}
use Rattle.algebra.proofs.Norms.{mul_alike}
use Rattle.algebra.proofs.Words.{words_alike, words_same}
use Rattle.sweeps.specs.Fit.{key_at}
use Rattle.sweeps.specs.Forms.{row_of, read_rows}
use Rattle.sweeps.specs.Rest.{gathered}
use Rattle.sweeps.specs.External.{digits_of, taken_by, Spread}

module _ (N Q : ℕ) (some : 0 < Q) where
  -- no term, and one term more
  pub taken_none : (D p : ℕ → Poly) → words N Q (λ k. pos 0) ≡ words N Q (taken N 0 D p)
  unfolding taken sum_z
  taken_none D p = refl

  pub taken_more : (D p : ℕ → Poly) (i : ℕ) (x a b : List ℕ) → x ≡ words N Q (taken N i D p) → D i ≡ coeffs a → p i ≡ coeffs b
      → fused N Q x a b ≡ words N Q (taken N (i + 1) D p)
  unfolding taken sum_z fused
  taken_more D p i x a b e f g =
      rw (e, add-one i)
      (words_same N Q (plus (coeffs (words N Q (λ k. sum_z i (λ j. mul N (D j) (p j) k)))) (mul N (coeffs a) (coeffs b)))
      (λ k. sum_z i (λ j. mul N (D j) (p j) k) +ℤ mul N (D i) (p i) k) some
      (λ k l. cong_add Q (words_alike N Q (λ k. sum_z i (λ j. mul N (D j) (p j) k)) some k l) (rw (f, g) (cong_refl Q (mul N (coeffs a) (coeffs b) k)))))

  -- congruent factors
  pub taken_alike : (d : ℕ) (D E p q : ℕ → Poly) → ((i : ℕ) → i < d → Alike Q N (D i) (E i)) → ((i : ℕ) → i < d → Alike Q N (p i) (q i))
      → Alike Q N (taken N d D p) (taken N d E q)
  unfolding taken
  taken_alike d D E p q f g k l =
      cong_sum Q d (λ i. mul N (D i) (p i) k) (λ i. mul N (E i) (q i) k) (λ i b. mul_alike Q N (D i) (E i) (p i) (q i) (f i b) (g i b) k l)

-- where the rows read as digits, it is their accumulator taken by the key
gathered_words : (reads : List ℕ → List ℕ) (n : Numbers) (rows keys acc : List ℕ) (j total : ℕ) → 0 < n.modulus
    → j * n.digits + n.digits ≤ total → Spread n reads acc rows
    → words n.degree n.modulus (taken n.degree n.digits
    (λ i. coeffs (reads (row_of n.degree rows i))) (λ i. coeffs (reads (row_of n.degree keys (j * n.digits + i)))))
    ≡ words n.degree n.modulus (taken_by n (read_rows reads n.degree total keys) j acc)
unfolding read_rows
gathered_words reads n rows keys acc j total some ends spread =
    let N = n.degree in
    let Q = n.modulus in
    words_same N Q _ (taken_by n (map (λ i. reads (row_of N keys i)) (range_with_len 0 total)) j acc) some
    (taken_alike N Q some n.digits _ (digits_of n acc) _ (key_at n.digits (map (λ i. reads (row_of N keys i)) (range_with_len 0 total)) j)
    (λ i l k b. rw (spread i l) (words_alike N Q (digits_of n acc i) some k b))
    (λ i l k b.
    same Q _ _ (ap (λ (w : List ℕ). pos (get_or w k 0))
    (sym (get_or-map-range_with_len (λ i. reads (row_of N keys i)) 0 total (j * n.digits + i) (j * n.digits + i) [] (omega arith) (omega arith))))))

pub collected : (reads : Ring → List ℕ → List ℕ) (s : Set) (r : Ring) (d first : ℕ) (rows keys acc : List ℕ) (j total : ℕ)
    → r ≡ s.ring → d ≡ s.within.numbers.digits → first ≡ j * s.within.numbers.digits
    → j * s.within.numbers.digits + s.within.numbers.digits ≤ total → Spread s.within.numbers (reads s.ring) acc rows
    → gathered reads r d rows keys first
    ≡ words s.within.numbers.degree s.within.numbers.modulus
    (taken_by s.within.numbers (read_rows (reads s.ring) s.within.numbers.degree total keys) j acc)
collected reads s r d first rows keys acc j total e f h ends spread =
    let n = s.within.numbers in
    let p = reads s.ring in
    ap (λ (x : Ring). gathered reads x d rows keys first) e
    ∙ ap (λ (x : ℕ). gathered reads s.ring x rows keys first) f
    ∙ ap (λ (x : ℕ). gathered reads s.ring n.digits rows keys x) h
    ∙ ap (λ (N : ℕ). words N s.ring.modulus (taken N n.digits (λ i. coeffs (p (row_of N rows i))) (λ i. coeffs (p (row_of N keys (j * n.digits + i)))))) s.same.0
    ∙ ap (λ (Q : ℕ). words n.degree Q (taken n.degree n.digits (λ i. coeffs (p (row_of n.degree rows i))) (λ i. coeffs (p (row_of n.degree keys (j * n.digits + i)))))) s.same.1
    ∙ gathered_words p n rows keys acc j total (omega (arith, s.within.moduli)) ends spread
