-- Keys that are made from the ring secret's inverse, and that they fit.
use Rattle.std.specs.Prelude.{ℕ, ◌*◌, ◌/◌, ◌%◌, List, map, ℤ}
use Rattle.std.specs.List.{range_with_len}
use Rattle.algebra.specs.Keys.{gadget}
use Rattle.algebra.specs.Polys.{Alike, Within, one, plus, scale, mul}
use Rattle.algebra.specs.Words.{coeffs, words}
use Rattle.set.specs.declared.numbers.Numbers.{Numbers}
use Rattle.set.specs.declared.within.Within as set
use Rattle.sweeps.specs.Fit.{entries, RingSecret, SmallSecret, FitsStart, FitsSweep}
use Rattle.sweeps.specs.Forms.{ArePolys}

-- polynomial i of a start key: (g + P B^i) f', for the noise g
unfoldable pub start_part : Numbers → List ℕ → List ℤ → ℕ → List ℕ
start_part n inverse g i =
    words n.degree n.modulus (mul n.degree (plus (entries g) (scale (gadget n.dropped n.base i) one)) (coeffs inverse))

-- polynomial i of a selector of m: g f' + P B^i m
unfoldable pub selector_part : Numbers → List ℕ → List ℤ → List ℕ → ℕ → List ℕ
selector_part n inverse g m i =
    words n.degree n.modulus (plus (mul n.degree (entries g) (coeffs inverse)) (scale (gadget n.dropped n.base i) (coeffs m)))

-- a start key, and selectors of `count` messages, with a noise for each polynomial
unfoldable pub made_start : Numbers → List ℕ → (ℕ → List ℤ) → List (List ℕ)
made_start n inverse noise = map (λ i. start_part n inverse (noise i) i) (range_with_len 0 n.digits)

unfoldable pub made_selectors : Numbers → ℕ → List ℕ → (ℕ → List ℤ) → (ℕ → List ℕ) → List (List ℕ)
made_selectors n count inverse noise message =
    map (λ t. selector_part n inverse (noise t) (message (t / n.digits)) (t % n.digits)) (range_with_len 0 (count * n.digits))

-- for all f f' = 1 and noises within E the keys that are made fit, whatever messages a sweep tells
pub record KeysFit : Type 0 where
  pub start : (w : set.Within) (f : List ℤ) (inverse : List ℕ) (noise : ℕ → List ℤ)
      → Alike w.numbers.modulus w.numbers.degree (mul w.numbers.degree (entries f) (coeffs inverse)) one
      → ((t : ℕ) → Within w.numbers.degree w.numbers.noise (entries (noise t)))
      → FitsStart w.numbers f (made_start w.numbers inverse noise)
  pub selectors : (w : set.Within) (f s : List ℤ) (inverse : List ℕ) (noise : ℕ → List ℤ)
      → (message : set.Within → List ℤ → ℕ → List ℕ) (count : set.Within → ℕ)
      → RingSecret w.numbers f → SmallSecret w.numbers s
      → Alike w.numbers.modulus w.numbers.degree (mul w.numbers.degree (entries f) (coeffs inverse)) one
      → ((t : ℕ) → Within w.numbers.degree w.numbers.noise (entries (noise t)))
      → FitsSweep message count w f s (made_selectors w.numbers (count w) inverse noise (message w s))
  pub polys : (w : set.Within) (inverse : List ℕ) (noise : ℕ → List ℤ) (message : ℕ → List ℕ) (count : ℕ)
      → ArePolys w.numbers.degree w.numbers.modulus (made_start w.numbers inverse noise)
      × ArePolys w.numbers.degree w.numbers.modulus (made_selectors w.numbers count inverse noise message)
