-- States what the holder of the secrets relies on: made keys fit, sealed words hold their bit, and words hold one bit only.
use Rattle.std.specs.Prelude.{◌≡◌, ℕ, ◌-◌, ◌*◌, ◌/◌, ◌%◌, ◌<◌, ◌≤◌, ◌⊎◌, List, ℤ, pos, ◌-ℤ◌, ◌*ℤ◌}
use Rattle.algebra.specs.Ints.{Cong, sum_z}
use Rattle.algebra.specs.Polys.{Poly, Alike, Within, one, plus, scale, mul}
use Rattle.algebra.specs.Near.{Nearby}
use Rattle.algebra.specs.Gates.{phase, Holds, invert, exponent}

pub record SecretLaws : Type 0 where
  -- with f' the inverse of f and noise g: (g + c t) f' for a key of t, g f' + c m for a selector of m
  pub start_fits : (Q N E : ℕ) (f f' g : Poly) → Alike Q N (mul N f f') one → Within N E g
      → (c : ℤ) (t : Poly) → Nearby Q N E (mul N f (mul N (plus g (scale c t)) f')) (scale c t)
  pub selector_fits : (Q N E : ℕ) (f f' g : Poly) → Alike Q N (mul N f f') one → Within N E g
      → (c : ℤ) (m : Poly) → Nearby Q N E (mul N f (plus (mul N g f') (scale c m))) (scale c (mul N m f))
  -- the last word settles the phase
  pub seals : (q n : ℕ) (s c : ℕ → ℤ) (v : ℤ) → Cong q (c n) (v -ℤ sum_z n (λ j. s j *ℤ c j)) → Cong q (phase n s c) v
  pub inverts : (n q V m : ℕ) (s : ℕ → ℤ) (xs : List ℕ) → 0 < q → m ≤ 1 → Holds n q V s m xs → Holds n q V s (1 - m) (invert n q xs)
  -- where the phase of words that hold 0 or 1 lies, for noise below q/8
  pub opens_zero : (n q : ℕ) (s : ℕ → ℕ) (xs : List ℕ) → 0 < q / 8 → q ≡ 8 * (q / 8)
      → (V : ℕ) → V < q / 8 → Holds n q V (λ j. pos (s j)) 0 xs
      → (exponent n s xs % q < q / 8) ⊎ (7 * (q / 8) ≤ exponent n s xs % q)
  pub opens_one : (n q : ℕ) (s : ℕ → ℕ) (xs : List ℕ) → 0 < q / 8 → q ≡ 8 * (q / 8)
      → (V : ℕ) → V < q / 8 → Holds n q V (λ j. pos (s j)) 1 xs
      → (q / 8 ≤ exponent n s xs % q) × (exponent n s xs % q < 3 * (q / 8))
  pub one_bit : (n q : ℕ) (s : ℕ → ℕ) (xs : List ℕ) → 0 < q / 8 → q ≡ 8 * (q / 8)
      → (V W a b : ℕ) → V < q / 8 → W < q / 8 → a ≤ 1 → b ≤ 1
      → Holds n q V (λ j. pos (s j)) a xs → Holds n q W (λ j. pos (s j)) b xs → a ≡ b
