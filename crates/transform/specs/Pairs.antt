-- One more pair of words written.
use Rattle.std.specs.Prelude.{◌≡◌, ℕ, zero, suc, ◌+◌, ◌-◌, ◌*◌, ◌/◌, ◌%◌, ◌<◌, ◌≤◌, ◌≢◌, List, length, slice_index, slice_set}
use Rattle.std.proofs.Common.{◌∙◌, subst, inl, inr, arith, length-set, get_or-set_same, get_or-set_other, below_more}
use Rattle.std.proofs.lemmas.Bool.{cases_lt}

-- at two places i and k
at_first : (x : List ℕ) (i k a b : ℕ) → i ≢ k → i < length x → slice_index (slice_set (slice_set x i a) k b) i ≡ a
at_first x i k a b n l = get_or-set_other (slice_set x i a) k i b 0 n ∙ get_or-set_same x i a 0 l

at_second : (x : List ℕ) (i k a b : ℕ) → k < length x → slice_index (slice_set (slice_set x i a) k b) k ≡ b
at_second x i k a b l = let m : k < length (slice_set x i a) = simp length-set l in get_or-set_same (slice_set x i a) k b 0 m

elsewhere : (x : List ℕ) (i k a b j : ℕ) → j ≢ i → j ≢ k → slice_index (slice_set (slice_set x i a) k b) j ≡ slice_index x j
elsewhere x i k a b j n m = get_or-set_other (slice_set x i a) k j b 0 m ∙ get_or-set_other x i j a 0 n

-- at 2 n and 2 n + 1
pub pairs_more : (P R : ℕ → ℕ) (y : List ℕ) (n a b : ℕ) → 2 * n + 1 < length y
    → ((j : ℕ) → j < n → (slice_index y (2 * j) ≡ P j) × (slice_index y (2 * j + 1) ≡ R j)) → a ≡ P n → b ≡ R n
    → (j : ℕ) → j < n + 1
    → (slice_index (slice_set (slice_set y (2 * n) a) (2 * n + 1) b) (2 * j) ≡ P j) × (slice_index (slice_set (slice_set y (2 * n) a) (2 * n + 1) b) (2 * j + 1) ≡ R j)
pairs_more P R y n a b fits below p r =
    below_more _ _
    (λ j h. (
      elsewhere y (2 * n) (2 * n + 1) a b (2 * j) (omega arith) (omega arith) ∙ (below j h).0,
      elsewhere y (2 * n) (2 * n + 1) a b (2 * j + 1) (omega arith) (omega arith) ∙ (below j h).1,
    ))
    (at_first y (2 * n) (2 * n + 1) a b (omega arith) (omega arith) ∙ p, at_second y (2 * n) (2 * n + 1) a b fits ∙ r)

-- at n and n + h
pub halves_more : (P R : ℕ → ℕ) (x : List ℕ) (h n a b : ℕ) → n < h → n + h < length x
    → ((j : ℕ) → j < n → (slice_index x j ≡ P j) × (slice_index x (j + h) ≡ R j)) → a ≡ P n → b ≡ R n
    → (j : ℕ) → j < n + 1
    → (slice_index (slice_set (slice_set x n a) (n + h) b) j ≡ P j) × (slice_index (slice_set (slice_set x n a) (n + h) b) (j + h) ≡ R j)
halves_more P R x h n a b some fits below p r =
    below_more _ _
    (λ j l. (
      elsewhere x n (n + h) a b j (omega arith) (omega arith) ∙ (below j l).0,
      elsewhere x n (n + h) a b (j + h) (omega arith) (omega arith) ∙ (below j l).1,
    ))
    (at_first x n (n + h) a b (omega arith) (omega arith) ∙ p, at_second x n (n + h) a b fits ∙ r)

-- a place is j or j + h
pub by_half : (h : ℕ) (P : ℕ → Type 0) → ((j : ℕ) → j < h → P j × P (j + h)) → (k : ℕ) → k < 2 * h → P k
by_half h P each k l = elim (cases_lt k h) [ inl a ↦ (each k a).0 | inr b ↦ subst P (back b) (each (k - h) (low b)).1 ]
  where
    back : h ≤ k → k - h + h ≡ k
    back b = omega arith

    low : h ≤ k → k - h < h
    low b = omega arith

-- a place is 2 j or 2 j + 1
pub by_pair : (h : ℕ) (P : ℕ → Type 0) → ((j : ℕ) → j < h → P (2 * j) × P (2 * j + 1)) → (k : ℕ) → k < 2 * h → P k
by_pair h P each k l = at (k / 2) (k % 2) (omega arith) (omega arith) (omega arith)
  where
    at : (j d : ℕ) → j < h → d < 2 → 2 * j + d ≡ k → P k
    at j zero a b e = let z : 2 * j ≡ k = omega arith in subst P z (each j a).0
    at j (suc d) a b e = let z : 2 * j + 1 ≡ k = omega arith in subst P z (each j a).1
