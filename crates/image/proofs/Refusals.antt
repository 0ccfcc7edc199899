-- What is refused first is the least fault that is true of an image.
use Rattle.std.proofs.Common.{◌≡◌, ℕ, zero, suc, ◌+◌, ◌-◌, ◌<◌, ◌≤◌, Bool, true, false, ◌&&◌, eqb, leb, ◌⊎◌, List, [], ◌∷◌, length, get_or, drop, None, sym, refl, ◌∙◌, subst, inl, inr, arith}
use Rattle.std.proofs.lemmas.List.Edits.{get_or-between}
use Rattle.std.proofs.lemmas.List.{length-take}
use Rattle.std.proofs.lemmas.Bool.{leb-true, leb-false, eqb-true, eqb-false, and_parts, and_cases, both_ways}
use Rattle.faults.specs.declared.fault.Fault.TheVariants.{Directory}
use Rattle.faults.specs.Least.{Least}
use Rattle.faults.proofs.Least.{row_first, row_last}
use Rattle.set.proofs.Limits.{peel, passes}
use Rattle.image.specs.Bytes.{all_zero}
use Rattle.image.specs.Directory.{count_of, offset_of, length_of, end_of, gap_before, header_fits, span_fits, image_refused, PartsInside, WrongSpan, WrongImage}

-- a byte that is not 0 is somewhere among bytes that are not all 0, and nowhere among others
step : (b : Bool) (x : ℕ) (xs : List ℕ) → eqb x 0 ≡ b → (b && all_zero xs) ≡ false
    → (all_zero xs ≡ false → (k : ℕ) × ((k < length xs) × (get_or xs k 0 ≡ 0 → ⊥))) → (k : ℕ) × ((k < length (x ∷ xs)) × (get_or (x ∷ xs) k 0 ≡ 0 → ⊥))
step true x xs e z more = let m = more z in (suc m.0, ((let h = m.1.0 in omega arith), m.1.1))
step false x xs e z more = (0, (omega arith, eqb-false x 0 e))

found : (xs : List ℕ) → all_zero xs ≡ false → (k : ℕ) × ((k < length xs) × (get_or xs k 0 ≡ 0 → ⊥))
found [] e = absurd (both_ways true e refl)
found (x ∷ xs) e = step (eqb x 0) x xs refl e (found xs)

no_other : (xs : List ℕ) → all_zero xs ≡ true → (k : ℕ) → get_or xs k 0 ≡ 0
no_other [] e k = refl
no_other (x ∷ xs) e zero = eqb-true x 0 (and_parts (eqb x 0) (all_zero xs) e).0
no_other (x ∷ xs) e (suc k) = no_other xs (and_parts (eqb x 0) (all_zero xs) e).1 k

module _ (image : List ℕ) (from i : ℕ) where
  gap_spoiled : all_zero (gap_before image from i) ≡ false → (k : ℕ) × ((from ≤ k) × ((k < offset_of image i) × (get_or image k 0 ≡ 0 → ⊥)))
  gap_spoiled e =
      let f = found (gap_before image from i) e in
      let l : f.0 < length (gap_before image from i) = f.1.0 in
      let n : f.0 < offset_of image i - from = omega (arith, length-take (offset_of image i - from) (drop from image)) in
      (from + f.0, (omega arith, (omega arith, λ z. f.1.1 (get_or-between image from (offset_of image i) f.0 0 (omega arith) ∙ z))))

  gap_clean : all_zero (gap_before image from i) ≡ true → (k : ℕ) → from ≤ k → k < offset_of image i → get_or image k 0 ≡ 0
  gap_clean e k a b =
      let z = no_other (gap_before image from i) e (k - from) in
      let g = get_or-between image from (offset_of image i) (k - from) 0 (omega arith) in
      let p : from + (k - from) ≡ k = omega arith in
      subst (λ (j : ℕ). get_or image j 0 ≡ 0) p (sym g ∙ z)

  rest_wrong : (leb (end_of image i) (length image) && all_zero (gap_before image from i)) ≡ false
      → (length image < end_of image i) ⊎ ((k : ℕ) × ((from ≤ k) × ((k < offset_of image i) × (get_or image k 0 ≡ 0 → ⊥))))
  rest_wrong e = elim (and_cases (leb (end_of image i) (length image)) (all_zero (gap_before image from i)) e)
      [ inl a ↦ inl (leb-false (end_of image i) (length image) a) | inr b ↦ inr (gap_spoiled b) ]

  pub span_wrong : span_fits image from i ≡ false → WrongSpan image from i
  span_wrong e = elim (and_cases (leb from (offset_of image i)) (leb (end_of image i) (length image) && all_zero (gap_before image from i)) e)
      [ inl a ↦ inl (leb-false from (offset_of image i) a) | inr b ↦ inr (rest_wrong b) ]

  pub span_right : WrongSpan image from i → span_fits image from i ≡ true → ⊥
  span_right w e =
      let p = and_parts (leb from (offset_of image i)) (leb (end_of image i) (length image) && all_zero (gap_before image from i)) e in
      let r = and_parts (leb (end_of image i) (length image)) (all_zero (gap_before image from i)) p.1 in
      let low = leb-true from (offset_of image i) p.0 in
      let high = leb-true (end_of image i) (length image) r.0 in
      elim w [ inl a ↦ omega arith | inr v ↦ elim v [ inl b ↦ omega arith | inr k ↦ k.1.1.1 (gap_clean r.1 k.0 k.1.0 k.1.1.0) ] ]

  pub span_inside : span_fits image from i ≡ true → end_of image i ≤ length image
  span_inside e =
      let p = and_parts (leb from (offset_of image i)) (leb (end_of image i) (length image) && all_zero (gap_before image from i)) e in
      leb-true (end_of image i) (length image) (and_parts (leb (end_of image i) (length image)) (all_zero (gap_before image from i)) p.1).0

module _ (image : List ℕ) where
  header_wrong : header_fits image ≡ false → (length image < 34) ⊎ (count_of image ≡ 4 → ⊥)
  header_wrong e = elim (and_cases (leb 34 (length image)) (eqb (count_of image) 4) e)
      [ inl a ↦ inl (leb-false 34 (length image) a) | inr b ↦ inr (eqb-false (count_of image) 4 b) ]

  header_right : (length image < 34) ⊎ (count_of image ≡ 4 → ⊥) → header_fits image ≡ true → ⊥
  header_right w e =
      let p = and_parts (leb 34 (length image)) (eqb (count_of image) 4) e in
      let l = leb-true 34 (length image) p.0 in
      elim w [ inl a ↦ omega arith | inr b ↦ b (eqb-true (count_of image) 4 p.1) ]

  -- a pair with a rule of its own: two numbers are equal
  module _ (from i a b : ℕ) where
    own-wrong : (span_fits image from i && eqb a b) ≡ false → WrongSpan image from i ⊎ (a ≡ b → ⊥)
    own-wrong e = elim (and_cases (span_fits image from i) (eqb a b) e)
        [ inl x ↦ inl (span_wrong image from i x) | inr y ↦ inr (eqb-false a b y) ]

    own-right : WrongSpan image from i ⊎ (a ≡ b → ⊥) → (span_fits image from i && eqb a b) ≡ true → ⊥
    own-right w e =
        let p = and_parts (span_fits image from i) (eqb a b) e in
        elim w [ inl x ↦ span_right image from i x p.0 | inr y ↦ y (eqb-true a b p.1) ]

  pub image_least : Least (WrongImage image) (image_refused image)
  image_least =
      (row_first (Directory 0) (Directory 0) _ _ (header_fits image) _ (inr (refl, inr (refl, omega arith))) header_wrong header_right
      (row_first (Directory 0) (Directory 1) _ _ (span_fits image 34 0 && eqb (length_of image 0) 64) _ (inr (refl, inl (omega arith)))
      (own-wrong 34 0 (length_of image 0) 64) (own-right 34 0 (length_of image 0) 64)
      (row_first (Directory 1) (Directory 2) _ _ (span_fits image (end_of image 0) 1) _ (inr (refl, inl (omega arith)))
      (span_wrong image (end_of image 0) 1) (span_right image (end_of image 0) 1)
      (row_first (Directory 2) (Directory 3) _ _ (span_fits image (end_of image 1) 2) _ (inr (refl, inl (omega arith)))
      (span_wrong image (end_of image 1) 2) (span_right image (end_of image 1) 2)
      (row_last (Directory 3) (span_fits image (end_of image 2) 3 && eqb (end_of image 3) (length image)) _
      (own-wrong (end_of image 2) 3 (end_of image 3) (length image)) (own-right (end_of image 2) 3 (end_of image 3) (length image))))))).least

  pub parts_inside : image_refused image ≡ None → PartsInside image
  parts_inside e =
      let w = peel _ _ _ e in
      let x = peel _ _ _ w.1 in
      let y = peel _ _ _ x.1 in
      let z = peel _ _ _ y.1 in
      record {
        zeroth = span_inside image 34 0 (and_parts (span_fits image 34 0) (eqb (length_of image 0) 64) x.0).0;
        first = span_inside image (end_of image 0) 1 y.0;
        second = span_inside image (end_of image 1) 2 z.0;
        third = span_inside image (end_of image 2) 3 (and_parts (span_fits image (end_of image 2) 3) (eqb (end_of image 3) (length image)) (passes _ _ z.1)).0;
      }
