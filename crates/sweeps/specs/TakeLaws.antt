-- What an accumulator taken by a key means under the ring secret, with exact bounds on the error.
use Rattle.std.specs.Prelude.{ℕ, ◌+◌, ◌*◌, ◌/◌, ◌≤◌, List, ℤ}
use Rattle.algebra.specs.Keys.{Selector}
use Rattle.algebra.specs.Near.{Nearby}
use Rattle.algebra.specs.Polys.{Poly, mul, weight}
use Rattle.algebra.specs.Words.{coeffs}
use Rattle.kernels.specs.Polynomials.{IsPoly}
use Rattle.set.specs.Noise.{drop_of}
use Rattle.set.specs.declared.numbers.Numbers.{Numbers}
use Rattle.set.specs.declared.checked.Set.{Set}
use Rattle.sweeps.specs.Fit.{entries, key_at, RingSecret, FitsStart}
use Rattle.sweeps.specs.External.{taken_words}
use Rattle.sweeps.specs.Layout.{numbers_of}

-- N d (B/2) E: what the noises of a key add
abbrev pub key_noise : Numbers → ℕ
key_noise n = n.degree * n.digits * (n.base / 2) * n.noise

-- a key of d polynomials is a selector of m
abbrev pub SelectorOf : Numbers → List ℤ → Poly → List (List ℕ) → Type 0
SelectorOf n f m key =
    Selector n.modulus n.degree n.dropped n.base n.digits n.noise (entries f) m (key_at n.digits key 0)

pub record TakeLaws : Type 0 where
  -- the result has N words below Q
  pub poly : (s : Set) (key : List (List ℕ)) (acc : List ℕ)
      → IsPoly (numbers_of s).degree (numbers_of s).modulus (taken_words (numbers_of s) key acc)
  -- by a start key: f × result is the accumulator
  pub started : (s : Set) (f : List ℤ) (key : List (List ℕ)) (acc : List ℕ)
      → IsPoly (numbers_of s).degree (numbers_of s).modulus acc → FitsStart (numbers_of s) f key
      → Nearby (numbers_of s).modulus (numbers_of s).degree (key_noise (numbers_of s) + drop_of (numbers_of s))
      (mul (numbers_of s).degree (entries f) (coeffs (taken_words (numbers_of s) key acc))) (coeffs acc)
  -- by a selector of m: f × result is m × f × the accumulator; m = 0 has weight 0, and ±X^i weight 1
  pub selected : (s : Set) (f : List ℤ) (m : Poly) (w : ℕ) (key : List (List ℕ)) (acc : List ℕ)
      → IsPoly (numbers_of s).degree (numbers_of s).modulus acc → RingSecret (numbers_of s) f
      → weight (numbers_of s).degree m ≤ w → SelectorOf (numbers_of s) f m key
      → Nearby (numbers_of s).modulus (numbers_of s).degree (key_noise (numbers_of s) + w * (drop_of (numbers_of s) * (numbers_of s).weight))
      (mul (numbers_of s).degree (entries f) (coeffs (taken_words (numbers_of s) key acc)))
      (mul (numbers_of s).degree m (mul (numbers_of s).degree (entries f) (coeffs acc)))
