-- Rows turned into their forms one after the other, and read again.
use Rattle.std.proofs.Common.{◌≡◌, ℕ, zero, suc, ◌+◌, ◌*◌, ◌/◌, ◌<◌, ◌≤◌, List, [], ◌∷◌, ◌++◌, map, length, get_or, take, drop, sym, refl, ap, ◌∙◌, ap₂, append_assoc, suc-mul, add-mul, one-mul, zero-mul, arith}
use native.Mathlib.Nat.{mul-div_cancel_left}
use borrow.Rule.Slice.PartMut.{put_mid}
use Rattle.std.specs.List.{range_with_len, flat_map}
use Rattle.std.proofs.lemmas.List.FromFn.{map-range_with_len_more}
use Rattle.std.proofs.lemmas.List.{append-nil, map-id, length-append, length-take-le, length-drop, take_at, drop_at, drop-drop, drop_all, get_or-take, get_or-drop, flat_map_more}
use Rattle.rings.specs.declared.ring.Ring.{Ring}
use Rattle.set.specs.declared.checked.Set.{Set}
use Rattle.kernels.specs.Polynomials.{Below, IsPoly, InRing, poly_of}
use Rattle.kernels.specs.Reading.{OneForm}
use Rattle.kernels.specs.Reduced.{reduced_same}
use Rattle.sweeps.specs.Forms.{row_of, read_rows}
use Rattle.sweeps.proofs.Rows.{row_ends}
use Rattle.image.specs.Bytes.{first_words, words_of}
use Rattle.image.proofs.Words.{words_long}
use Rattle.engine.specs.Load.{form_rows}

-- lists joined one after the other, each of N words
module _ (f : ℕ → List ℕ) (N : ℕ) where
  joined_long : (a n : ℕ) → ((i : ℕ) → a ≤ i → i < a + n → length (f i) ≡ N) → length (flat_map f (range_with_len a n)) ≡ n * N
  joined_long a zero h = sym (zero-mul N)
  joined_long a (suc n) h =
      let first = h a (omega arith) (omega arith) in
      let rest = joined_long (a + 1) n (λ i l m. h i (omega arith) (omega arith)) in
      length-append (f a) (flat_map f (range_with_len (a + 1) n)) ∙ omega (arith, suc-mul n N)

  joined_row : (a n i : ℕ) → ((j : ℕ) → a ≤ j → j < a + n → length (f j) ≡ N) → i < n → row_of N (flat_map f (range_with_len a n)) i ≡ f (a + i)
  joined_row a zero i h l = absurd (omega arith)
  joined_row a (suc n) zero h l =
      let first : length (f a) ≡ N = h a (omega arith) (omega arith) in
      ap (λ (m : ℕ). take N (drop m (f a ++ flat_map f (range_with_len (a + 1) n)))) (zero-mul N)
      ∙ take_at (f a) (flat_map f (range_with_len (a + 1) n)) N first
      ∙ ap f {x = a} {y = a + 0} (omega arith)
  joined_row a (suc n) (suc i) h l =
      let first : length (f a) ≡ N = h a (omega arith) (omega arith) in
      let all = f a ++ flat_map f (range_with_len (a + 1) n) in
      let e : suc i * N ≡ N + i * N = omega (arith, suc-mul i N) in
      ap (λ (m : ℕ). take N (drop m all)) e
      ∙ ap (take N) (sym (drop-drop (i * N) N all))
      ∙ ap (λ (ws : List ℕ). take N (drop (i * N) ws)) (drop_at (f a) (flat_map f (range_with_len (a + 1) n)) N first)
      ∙ joined_row (a + 1) n i (λ j p q. h j (omega arith) (omega arith)) (omega arith)
      ∙ ap f {x = a + 1 + i} {y = a + suc i} (omega arith)

joined_same : (f g : ℕ → List ℕ) (a n : ℕ) → ((i : ℕ) → a ≤ i → i < a + n → f i ≡ g i) → flat_map f (range_with_len a n) ≡ flat_map g (range_with_len a n)
joined_same f g a zero h = refl
joined_same f g a (suc n) h =
    ap₂ (λ (x y : List ℕ). x ++ y) (h a (omega arith) (omega arith)) (joined_same f g (a + 1) n (λ i l m. h i (omega arith) (omega arith)))

map_same : (f g : ℕ → List ℕ) (a n : ℕ) → ((i : ℕ) → a ≤ i → i < a + n → f i ≡ g i) → map f (range_with_len a n) ≡ map g (range_with_len a n)
map_same f g a zero h = refl
map_same f g a (suc n) h =
    ap₂ (λ (x : List ℕ) (y : List (List ℕ)). x ∷ y) (h a (omega arith) (omega arith)) (map_same f g (a + 1) n (λ i l m. h i (omega arith) (omega arith)))

counting_more : (n : ℕ) → range_with_len 0 (n + 1) ≡ range_with_len 0 n ++ n ∷ []
counting_more n =
    sym (map-id (range_with_len 0 (n + 1))) ∙ map-range_with_len_more (λ x. x) 0 n n (omega arith) ∙ ap (λ (xs : List ℕ). xs ++ n ∷ []) (map-id (range_with_len 0 n))

-- a loop that turns row after row, where a form has as many words as its row
module _ (f : List ℕ → List ℕ) (N : ℕ) (ws : List ℕ) (long : (p : List ℕ) → length (f p) ≡ N) where
  forms_long : (i : ℕ) → length (form_rows f N i ws) ≡ i * N
  unfolding form_rows
  forms_long i = joined_long (λ j. f (row_of N ws j)) N 0 i (λ j l m. long (row_of N ws j))

  forms_more : (i : ℕ) → form_rows f N (i + 1) ws ≡ form_rows f N i ws ++ f (row_of N ws i)
  unfolding form_rows
  forms_more i = ap (flat_map (λ j. f (row_of N ws j))) (counting_more i) ∙ sym (flat_map_more (λ j. f (row_of N ws j)) [] (range_with_len 0 i) i)

  pub forms_none : ws ≡ form_rows f N 0 ws ++ drop (0 * N) ws
  unfolding form_rows
  forms_none = ap (λ (m : ℕ). drop m ws) (sym (zero-mul N))

  pub forms_all : (n : ℕ) → length ws ≡ n * N → form_rows f N n ws ++ drop (n * N) ws ≡ form_rows f N n ws
  forms_all n e =
      ap (λ (xs : List ℕ). form_rows f N n ws ++ xs) (drop_all (n * N) ws (omega arith)) ∙ append-nil (form_rows f N n ws)

  pub forms_step : (i : ℕ) (now new : List ℕ) → now ≡ form_rows f N i ws ++ drop (i * N) ws → new ≡ put_mid (i * N) N now (f (row_of N now i))
      → new ≡ form_rows f N (i + 1) ws ++ drop ((i + 1) * N) ws
  forms_step i now new inv wrote =
      let done = form_rows f N i ws in
      let left = drop (i * N) ws in
      let row : row_of N now i ≡ row_of N ws i =
      ap (λ (xs : List ℕ). row_of N xs i) inv ∙ ap (take N) (drop_at done left (i * N) (forms_long i)) in
      let front : take (i * N) now ≡ done = ap (take (i * N)) inv ∙ take_at done left (i * N) (forms_long i) in
      let back : drop N (drop (i * N) now) ≡ drop ((i + 1) * N) ws =
      ap (λ (xs : List ℕ). drop N (drop (i * N) xs)) inv
      ∙ ap (drop N) (drop_at done left (i * N) (forms_long i))
      ∙ drop-drop N (i * N) ws
      ∙ ap (λ (m : ℕ). drop m ws) {x = i * N + N} {y = (i + 1) * N} (omega (arith, add-mul i 1 N, one-mul N)) in
      wrote
      ∙ ap₂ (λ (x y : List ℕ). x ++ (f (row_of N now i) ++ y)) front back
      ∙ ap (λ (p : List ℕ). done ++ (f p ++ drop ((i + 1) * N) ws)) row
      ∙ sym (append_assoc done (f (row_of N ws i)) (drop ((i + 1) * N) ws))
      ∙ ap (λ (x : List ℕ). x ++ drop ((i + 1) * N) ws) (sym (forms_more i))

-- rows of words below Q are polynomials
row_poly : (N Q count : ℕ) (ws : List ℕ) (i : ℕ) → length ws ≡ count * N → Below Q ws → i < count → IsPoly N Q (row_of N ws i)
row_poly N Q count ws i e h l =
    let ends = row_ends i N count l in
    let room = length-drop (i * N) ws in
    let long : length (row_of N ws i) ≡ N = length-take-le N (drop (i * N) ws) (omega arith) in (
      long,
      λ k m.
          let n : k < N = omega arith in
          let at : get_or (row_of N ws i) k 0 ≡ get_or ws (i * N + k) 0 = get_or-take N (drop (i * N) ws) k 0 n ∙ get_or-drop (i * N) ws k 0 in
          let low = h (i * N + k) (omega arith) in
          omega arith,
    )

module _ {reads form : Ring → List ℕ → List ℕ} (one : OneForm reads form) (r : Ring) (count : ℕ) (ws : List ℕ)
    (long : length ws ≡ count * r.degree) (below : Below r.modulus ws) where
  poly_at : (i : ℕ) → i < 0 + count → InRing r (row_of r.degree ws i)
  poly_at i l = row_poly r.degree r.modulus count ws i long below (omega arith)

  forms_plain : form_rows (λ p. form r (poly_of r p)) r.degree count ws ≡ form_rows (form r) r.degree count ws
  unfolding form_rows
  forms_plain =
      joined_same (λ i. form r (poly_of r (row_of r.degree ws i))) (λ i. form r (row_of r.degree ws i)) 0 count
      (λ i l m. ap (form r) (sym (reduced_same r.degree r.modulus (row_of r.degree ws i) (poly_at i m))))

  forms_read : read_rows (reads r) r.degree count (form_rows (form r) r.degree count ws) ≡ read_rows (λ p. p) r.degree count ws
  unfolding form_rows read_rows
  forms_read =
      let f = λ (i : ℕ). form r (row_of r.degree ws i) in
      map_same (λ i. reads r (row_of r.degree (flat_map f (range_with_len 0 count)) i)) (λ i. row_of r.degree ws i) 0 count
      (λ i l m.
      ap (reads r) (joined_row f r.degree 0 count i (λ j p q. (one.below r (row_of r.degree ws j) (poly_at j q)).0) (omega arith)
      ∙ ap f {x = 0 + i} {y = i} (omega arith))
      ∙ one.back r (row_of r.degree ws i) (poly_at i m))

-- memory filled with a part: its forms, and what they read as
module _ {reads form : Ring → List ℕ → List ℕ} (one : OneForm reads form) (s : Set) (count long : ℕ) (bytes out : List ℕ)
    (room : long ≡ count * s.within.numbers.degree) (part : length bytes ≡ 4 * (count * s.within.numbers.degree))
    (below : Below s.within.numbers.modulus (words_of bytes))
    (filled : out ≡ form_rows (λ p. form s.ring (poly_of s.ring p)) s.ring.degree count (first_words long bytes)) where
  abbrev N : ℕ
  N = s.within.numbers.degree

  words_all : length (words_of bytes) ≡ count * s.ring.degree
  words_all =
      words_long bytes ∙ ap (λ (n : ℕ). n / 4) part ∙ mul-div_cancel_left (count * N) (omega arith) ∙ ap (λ (n : ℕ). count * n) (sym s.same.0)

  same_words : first_words long bytes ≡ words_of bytes
  same_words = ap (λ (n : ℕ). first_words n bytes) (room ∙ sym (ap (λ (n : ℕ). n / 4) part ∙ mul-div_cancel_left (count * N) (omega arith)))

  below_ring : Below s.ring.modulus (words_of bytes)
  below_ring k l = let e = s.same.1 in let h = below k l in omega arith

  in_ring : out ≡ form_rows (form s.ring) s.ring.degree count (words_of bytes)
  in_ring =
      filled ∙ ap (form_rows (λ p. form s.ring (poly_of s.ring p)) s.ring.degree count) same_words
      ∙ forms_plain one s.ring count (words_of bytes) words_all below_ring

  pub part_forms : out ≡ form_rows (form s.ring) N count (words_of bytes)
  part_forms = in_ring ∙ ap (λ (n : ℕ). form_rows (form s.ring) n count (words_of bytes)) s.same.0

  pub part_reads : read_rows (reads s.ring) N count out ≡ read_rows (λ p. p) N count (words_of bytes)
  part_reads =
      ap (λ (n : ℕ). read_rows (reads s.ring) n count out) (sym s.same.0)
      ∙ ap (read_rows (reads s.ring) s.ring.degree count) in_ring
      ∙ forms_read one s.ring count (words_of bytes) words_all below_ring
      ∙ ap (λ (n : ℕ). read_rows (λ p. p) n count (words_of bytes)) s.same.0
