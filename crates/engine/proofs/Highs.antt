-- The first word that is not below a modulus.
use Rattle.std.proofs.Common.{◌≡◌, ℕ, zero, suc, ◌+◌, ◌*◌, ◌<◌, ◌≤◌, Bool, true, false, cond, ltb, List, [], ◌∷◌, length, get_or, Some, None, Option, sym, refl, ap, subst, inl, inr, arith}
use Rattle.std.proofs.lemmas.Bool.{ltb-true, ltb-false, cases_lt}
use Rattle.faults.specs.declared.fault.Fault.{Fault}
use Rattle.faults.specs.declared.fault.Fault.TheVariants.{ImageWord}
use Rattle.faults.specs.Least.{NoLater, Least}
use Rattle.kernels.specs.Polynomials.{Below}
use Rattle.image.specs.Bytes.{words_of, first_high, four_times}
use Rattle.image.specs.Directory.{offset_of, part_at}
use Rattle.image.proofs.Words.{words_long}
use Rattle.engine.specs.Load.{fault_at, word_broken, WrongWord}

-- none is high, or the first that is, in words that start at place i
abbrev First : ℕ → ℕ → List ℕ → Option ℕ → Type 0
First m i ws None = Below m ws
First m i ws (Some j) =
    (k : ℕ) × ((j ≡ i + k) × ((k < length ws) × ((m ≤ get_or ws k 0) × ((l : ℕ) → l < length ws → m ≤ get_or ws l 0 → k ≤ l))))

-- one word more, in front
module _ (m w : ℕ) (ws : List ℕ) where
  below_cons : w < m → Below m ws → (k : ℕ) → k < length (w ∷ ws) → get_or (w ∷ ws) k 0 < m
  below_cons e h zero l = e
  below_cons e h (suc k) l = h k (omega arith)

  later_cons : (j : ℕ) → w < m → ((l : ℕ) → l < length ws → m ≤ get_or ws l 0 → j ≤ l)
      → (l : ℕ) → l < length (w ∷ ws) → m ≤ get_or (w ∷ ws) l 0 → suc j ≤ l
  later_cons j e h zero a b = absurd (omega arith)
  later_cons j e h (suc l) a b = let z = h l (omega arith) b in omega arith

  first_by : (b : Bool) (i : ℕ) → ltb w m ≡ b → (o : Option ℕ) → First m (i + 1) ws o → First m i (w ∷ ws) (cond b o (Some i))
  first_by true i e None h = below_cons (ltb-true w m e) h
  first_by true i e (Some j) h =
      let p = h.1.0 in
      let q = h.1.1.0 in
      (suc h.0, (omega arith, (omega arith, (h.1.1.1.0, later_cons h.0 (ltb-true w m e) h.1.1.1.1))))
  first_by false i e o h = (0, (omega arith, (omega arith, (ltb-false w m e, λ l a b. omega arith))))

first_is : (m i : ℕ) (ws : List ℕ) → First m i ws (first_high m i ws)
first_is m i [] = λ k l. absurd (omega arith)
first_is m i (w ∷ ws) = first_by m w ws (ltb w m) i refl (first_high m (i + 1) ws) (first_is m (i + 1) ws)

-- it lies within the part
inside_by : (m : ℕ) (ws : List ℕ) (o : Option ℕ) (at : ℕ) → First m 0 ws o → Some at ≡ four_times o → at < 4 * length ws
inside_by m ws None at h e = absurd (let z : ◌≡◌ {A = ℕ} 0 1 = cc in omega arith)
inside_by m ws (Some j) at h e =
    let f : at ≡ 4 * j = cc in
    let p = h.1.0 in
    let q = h.1.1.0 in
    omega arith

pub high_inside : (m : ℕ) (bytes : List ℕ) (at : ℕ) → Some at ≡ four_times (first_high m 0 (words_of bytes)) → at < length bytes
high_inside m bytes at e =
    let h = inside_by m (words_of bytes) (first_high m 0 (words_of bytes)) at (first_is m 0 (words_of bytes)) e in
    let l = words_long bytes in
    omega arith

-- where there is no fault, all words are below
below_by : (m at : ℕ) (ws : List ℕ) (o : Option ℕ) → First m 0 ws o → fault_at at (four_times o) ≡ None → Below m ws
below_by m at ws None h e = h
below_by m at ws (Some j) h e = absurd (let z : ◌≡◌ {A = ℕ} 0 1 = cc in omega arith)

pub all_below : (image : List ℕ) (pair m : ℕ) → word_broken image pair m ≡ None → Below m (words_of (part_at image pair))
all_below image pair m e =
    below_by m (offset_of image pair) (words_of (part_at image pair)) (first_high m 0 (words_of (part_at image pair))) (first_is m 0 (words_of (part_at image pair))) e

-- the first is the least
no_later : (at k l : ℕ) → k ≤ l → NoLater (ImageWord (at + 4 * k)) (ImageWord (at + 4 * l))
no_later at k l h = inr (refl, elim (cases_lt k l) [ inl a ↦ inl (omega arith) | inr b ↦ inr (omega arith, omega arith) ])

module _ (image : List ℕ) (pair m : ℕ) where
  least_by : (o : Option ℕ) → First m 0 (words_of (part_at image pair)) o → Least (WrongWord image pair m) (fault_at (offset_of image pair) (four_times o))
  least_by None h = λ g w. let l = h w.0 w.1.1.0 in let b = w.1.1.1 in omega arith
  least_by (Some j) h =
      let at = offset_of image pair in
      let e : j ≡ h.0 = (let p = h.1.0 in omega arith) in (
        (h.0, (ap (λ (k : ℕ). ImageWord (at + 4 * k)) e, (h.1.1.0, h.1.1.1.0))),
        λ g w. subst (λ (k : ℕ). NoLater (ImageWord (at + 4 * k)) g) (sym e)
            (subst (λ (f : Fault). NoLater (ImageWord (at + 4 * h.0)) f) (sym w.1.0)
            (no_later at h.0 w.0 (h.1.1.1.1 w.0 w.1.1.0 w.1.1.1))),
      )

  pub word_least : Least (WrongWord image pair m) (word_broken image pair m)
  word_least = least_by (first_high m 0 (words_of (part_at image pair))) (first_is m 0 (words_of (part_at image pair)))
