-- The words and the bytes of a part, one after the other.
use Rattle.std.proofs.Common.{◌≡◌, ℕ, zero, suc, ◌+◌, ◌*◌, ◌/◌, min, ◌^◌, ◌<◌, ◌≤◌, Bool, ◌&&◌, cond, eqb, leb, ltb, List, [], ◌∷◌, map, length, get_or, take, drop, ◌-◌, length-take, length-drop, Some, None, Option, option_map, sym, refl, ap, ◌∙◌, inl, inr, arith}
use Rattle.std.specs.List.{range_with_len, find, list_all}
use Rattle.std.proofs.lemmas.List.{get_or_past, get_or-take, get_or-drop}
use Rattle.std.specs.Array.{IsFirstChunk}
use Rattle.std.proofs.lemmas.List.FromFn.{length-map-range_with_len, get_or-map-range_with_len, fill_by_all}
use Rattle.std.proofs.lemmas.Bool.{cases_lt}
use Rattle.std.proofs.lemmas.Bool.Decides.{nat_tests}
use Rattle.image.specs.Bytes.{word_at, first_words, words_of, first_high, all_zero}

pub words_long : (bytes : List ℕ) → length (words_of bytes) ≡ length bytes / 4
unfolding first_words
words_long bytes = length-map-range_with_len (λ k. word_at bytes (4 * k)) 0 (length bytes / 4)

pub words_at : (bytes : List ℕ) (i : ℕ) → i < length bytes / 4 → get_or (words_of bytes) i 0 ≡ word_at bytes (4 * i)
unfolding first_words
words_at bytes i h = get_or-map-range_with_len (λ k. word_at bytes (4 * k)) 0 (length bytes / 4) i i 0 h (omega arith)

-- a loop that writes words, and a word past the end
pub words_from : (bytes out : List ℕ) (n : ℕ) → length out ≡ n → ((k : ℕ) → k < n → get_or out k 0 ≡ word_at bytes (4 * k)) → out ≡ first_words n bytes
unfolding first_words
words_from bytes out n e f = fill_by_all (λ k. word_at bytes (4 * k)) out n 0 e f

pub word_past : (bytes : List ℕ) (at : ℕ) → length bytes ≤ at → 0 ≡ word_at bytes at
unfolding word_at
word_past bytes at h =
    let a = get_or_past bytes at 0 h in
    let b = get_or_past bytes (at + 1) 0 (omega arith) in
    let c = get_or_past bytes (at + 2) 0 (omega arith) in
    let d = get_or_past bytes (at + 3) 0 (omega arith) in
    omega arith

-- the first four bytes of what is left from a place on
pub four_at : (bytes rest four : List ℕ) (at : ℕ) → rest ≡ take (length bytes - at) (drop at bytes) → IsFirstChunk rest four 4
    → (i : ℕ) → i < 4 → get_or four i 0 ≡ get_or bytes (at + i) 0
four_at bytes rest four at e h i l =
    let room : i < length bytes - at =
    omega (arith, l, h.enough, ap length e, length-take (length bytes - at) (drop at bytes), length-drop at bytes) in
    ap (λ (xs : List ℕ). get_or xs i 0) (h.same ∙ ap (take 4) e)
    ∙ get_or-take 4 (take (length bytes - at) (drop at bytes)) i 0 l
    ∙ get_or-take (length bytes - at) (drop at bytes) i 0 room
    ∙ get_or-drop at bytes i 0

-- word k, where 4k is capped at the largest place
pub word_capped : (bytes : List ℕ) (k at : ℕ) → at ≡ min (k * 4) 0xffff_ffff_ffff_ffff → length bytes < 2 ^ 64 → word_at bytes at ≡ word_at bytes (4 * k)
word_capped bytes k at e h = elim (cases_lt 0xffff_ffff_ffff_ffff (4 * k)) [
  | inl l ↦ sym (word_past bytes at (omega arith)) ∙ word_past bytes (4 * k) (omega arith)
  | inr g ↦ ap (word_at bytes) {x = at} {y = 4 * k} (omega arith)
]

-- the first word that is not below m, as a search over the places
turned : (m x : ℕ) (o p : Option ℕ) → cond (leb m x) o p ≡ cond (ltb x m) p o
turned m x o p = grind (arith, nat_tests)

pub found_first : (m : ℕ) (f : ℕ → ℕ) (a n : ℕ) → find (λ k. leb m (f k)) (range_with_len a n) ≡ first_high m a (map f (range_with_len a n))
found_first m f a zero = refl
found_first m f a (suc n) =
    ap (λ (o : Option ℕ). cond (leb m (f a)) (Some a) o) (found_first m f (a + 1) n)
    ∙ turned m (f a) (Some a) (first_high m (a + 1) (map f (range_with_len (a + 1) n)))

pub as_found : (o : Option ℕ) → option_map (λ x. x) o ≡ o
as_found None = refl
as_found (Some k) = refl

-- no byte but 0, as a test of each byte
pub zero_all : (bytes : List ℕ) → list_all (λ b. eqb b 0) bytes ≡ all_zero bytes
zero_all [] = refl
zero_all (b ∷ bs) = ap (λ (r : Bool). eqb b 0 && r) (zero_all bs)
