-- Defines the steps of a sweep, single and paired, and what a sweep does to an accumulator under the ring secret f.
use Rattle.std.specs.Prelude.{ℕ, zero, suc, ◌+◌, ◌*◌, ◌<◌, List, slice_index}
use Rattle.algebra.specs.Polys.{Poly, plus, minus, power, mul}
use Rattle.algebra.specs.Words.{coeffs, words}
use Rattle.algebra.specs.Near.{Nearby}
use Rattle.algebra.specs.Keys.{split, taken}

-- under f, new is X^σ old, up to a noise of at most V
abbrev pub Carries : ℕ → ℕ → Poly → ℕ → ℕ → Poly → Poly → Type 0
Carries Q N f σ V old new = Nearby Q N V (mul N f new) (power N σ (mul N f old))

-- (X^j - 1) T
abbrev pub turned : ℕ → ℕ → Poly → Poly
turned N j T = minus (power N j T) T

-- a single step: old + (X^j - 1) T
abbrev pub stepped : ℕ → ℕ → Poly → Poly → Poly
stepped N j T old = plus old (turned N j T)

-- a paired step: old + (X^(a + b) - 1) T + (X^a - 1) U + (X^b - 1) W
abbrev pub paired : ℕ → ℕ → ℕ → Poly → Poly → Poly → Poly → Poly
paired N a b T U W old = plus old (plus (turned N (a + b) T) (plus (turned N a U) (turned N b W)))

-- words taken by a key
abbrev pub external : ℕ → ℕ → ℕ → ℕ → ℕ → List ℕ → (ℕ → Poly) → Poly
external N Q P B d acc key = taken N d (split Q P B d acc) key

-- n single steps by the exponents e: step t takes the accumulator by key t
unfoldable pub singles : ℕ → ℕ → ℕ → ℕ → ℕ → (ℕ → ℕ → Poly) → (ℕ → ℕ) → ℕ → List ℕ → List ℕ
singles N Q P B d keys e zero acc = acc
singles N Q P B d keys e (suc t) acc =
    let old : List ℕ = singles N Q P B d keys e t acc in
    words N Q (stepped N (e t) (external N Q P B d old (keys t)) (coeffs old))

-- n paired steps: step t takes the accumulator by three keys, for the exponents 2t and 2t + 1
unfoldable pub pairs : ℕ → ℕ → ℕ → ℕ → ℕ → (ℕ → ℕ → Poly) → (ℕ → ℕ → Poly) → (ℕ → ℕ → Poly) → (ℕ → ℕ) → ℕ → List ℕ → List ℕ
pairs N Q P B d keys₁ keys₂ keys₃ e zero acc = acc
pairs N Q P B d keys₁ keys₂ keys₃ e (suc t) acc =
    let old : List ℕ = pairs N Q P B d keys₁ keys₂ keys₃ e t acc in
    words N Q (paired N (e (2 * t)) (e (2 * t + 1))
    (external N Q P B d old (keys₁ t)) (external N Q P B d old (keys₂ t)) (external N Q P B d old (keys₃ t)) (coeffs old))

-- e 0 + e 1 + .. + e (n - 1)
unfoldable pub total : ℕ → (ℕ → ℕ) → ℕ
total zero e = 0
total (suc n) e = total n e + e n

-- what is asked of a sweep by n exponents: under f it turns words below Q by the sum of e_j s_j, up to a noise of at most S
abbrev pub Sweeps : ℕ → ℕ → Poly → ℕ → (ℕ → ℕ) → ℕ → ((ℕ → ℕ) → List ℕ → List ℕ) → Type 0
Sweeps Q N f n s S sweep =
    (e : ℕ → ℕ) (acc : List ℕ) → ((k : ℕ) → k < N → slice_index acc k < Q)
    → Carries Q N f (total n (λ j. e j * s j)) S (coeffs acc) (coeffs (sweep e acc))

-- the noise of a step, for G what the split loses and F the weight of f
abbrev pub single_noise : ℕ → ℕ → ℕ → ℕ → ℕ → ℕ → ℕ
single_noise N d B E G F = N * d * B * E + 2 * G * F

abbrev pub paired_noise : ℕ → ℕ → ℕ → ℕ → ℕ → ℕ → ℕ
paired_noise N d B E G F = 3 * N * d * B * E + 2 * G * F
