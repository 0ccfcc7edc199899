-- Secrets, and keys that fit them.
use Rattle.std.specs.Prelude.{◌≡◌, ℕ, ◌+◌, ◌*◌, ◌<◌, ◌≤◌, ◌⊎◌, List, [], length, ℤ, pos, slice_index_or, unsigned_abs}
use Rattle.algebra.specs.Polys.{Poly, nonzeros}
use Rattle.algebra.specs.Words.{coeffs}
use Rattle.algebra.specs.Keys.{StartKey, Selector}
use Rattle.set.specs.declared.numbers.Numbers.{Numbers}
use Rattle.set.specs.declared.within.Within.{Within}

-- the entries of a secret as coefficients
abbrev pub entries : List ℤ → Poly
entries f k = slice_index_or f k (pos 0)

-- the ring secret: N entries -1, 0 or 1, at most F of them not 0
pub record RingSecret (n : Numbers) (f : List ℤ) : Type 0 where
  pub long : length f ≡ n.degree
  pub ternary : (k : ℕ) → k < n.degree → unsigned_abs (entries f k) ≤ 1
  pub light : nonzeros n.degree (entries f) ≤ n.weight

-- the small secret: n entries 0 or 1, at most h of them 1
pub record SmallSecret (n : Numbers) (s : List ℤ) : Type 0 where
  pub long : length s ≡ n.dimension
  pub bits : (k : ℕ) → k < n.dimension → (entries s k ≡ pos 0) ⊎ (entries s k ≡ pos 1)
  pub light : nonzeros n.dimension (entries s) ≤ n.ones

-- polynomial i of key j, where a key has d polynomials and keys stand one after the other
abbrev pub key_at : ℕ → List (List ℕ) → ℕ → ℕ → Poly
key_at d keys j i = coeffs (slice_index_or keys (j * d + i) [])

-- d polynomials that are a start key for f
abbrev pub FitsStart : Numbers → List ℤ → List (List ℕ) → Type 0
FitsStart n f key = StartKey n.modulus n.degree n.dropped n.base n.digits n.noise (entries f) (key_at n.digits key 0)

-- key j is a selector of the j-th message, for each of `count` keys
abbrev pub FitSelectors : Numbers → ℕ → (ℕ → List ℕ) → List ℤ → List (List ℕ) → Type 0
FitSelectors n count message f keys = (j : ℕ) → j < count
    → Selector n.modulus n.degree n.dropped n.base n.digits n.noise (entries f) (coeffs (message j)) (key_at n.digits keys j)

-- selectors that fit the secrets: the messages are those that a sweep tells from the small secret
pub record FitsSweep (message : Within → List ℤ → ℕ → List ℕ) (count : Within → ℕ) (w : Within) (f s : List ℤ) (keys : List (List ℕ)) : Type 0 where
  pub ring : RingSecret w.numbers f
  pub small : SmallSecret w.numbers s
  pub selectors : FitSelectors w.numbers (count w) (message w s) f keys
