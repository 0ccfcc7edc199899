-- States the laws of sweeps: what single and paired steps do under the ring secret, with their noise.
use Rattle.std.specs.Prelude.{◌≡◌, ℕ, ◌+◌, ◌-◌, ◌*◌, ◌/◌, ◌<◌, ◌≤◌}
use Rattle.algebra.specs.Polys.{Poly, Alike, power, mul, weight}
use Rattle.algebra.specs.Near.{Nearby}
use Rattle.algebra.specs.Digits.{Covers}
use Rattle.algebra.specs.Keys.{StartKey, Selector, bit, Splits, taken}
use Rattle.algebra.specs.Sweeps.{Carries, stepped, paired, singles, pairs, Sweeps, single_noise, paired_noise}

pub record RotationLaws : Type 0 where
  -- exponents and noises add
  pub after : (Q N : ℕ) (f : Poly) (σ τ V W : ℕ) (a b c : Poly)
      → Carries Q N f σ V a b → Carries Q N f τ W b c → Carries Q N f (σ + τ) (V + W) a c
  -- a single step by a selector of the bit s, a paired one by selectors of s t, s (1 - t) and t (1 - s)
  pub single : (Q N P B d E G F : ℕ) (f : Poly) → B ≡ 2 * (B / 2) → weight N f ≤ F
      → (j s : ℕ) (old new : Poly) (D p : ℕ → Poly) → s ≤ 1
      → Splits Q N P B d (B / 2) G old D → Selector Q N P B d E f (bit s) p
      → Alike Q N new (stepped N j (taken N d D p) old)
      → Carries Q N f (j * s) (single_noise N d B E G F) old new
  pub double : (Q N P B d E G F : ℕ) (f : Poly) → B ≡ 2 * (B / 2) → weight N f ≤ F
      → (a b s t : ℕ) (old new : Poly) (D p₁ p₂ p₃ : ℕ → Poly) → s ≤ 1 → t ≤ 1
      → Splits Q N P B d (B / 2) G old D
      → Selector Q N P B d E f (bit (s * t)) p₁
      → Selector Q N P B d E f (bit (s * (1 - t))) p₂
      → Selector Q N P B d E f (bit (t * (1 - s))) p₃
      → Alike Q N new (paired N a b (taken N d D p₁) (taken N d D p₂) (taken N d D p₃) old)
      → Carries Q N f (a * s + b * t) (paired_noise N d B E G F) old new
  -- whole sweeps of words: n single steps, and n paired ones for 2n bits
  pub single_sweeps : (Q N P B d E F : ℕ) (f : Poly) → 0 < Q → Covers Q P B d → weight N f ≤ F
      → (n : ℕ) (s : ℕ → ℕ) (keys : ℕ → ℕ → Poly)
      → ((t : ℕ) → t < n → s t ≤ 1) → ((t : ℕ) → t < n → Selector Q N P B d E f (bit (s t)) (keys t))
      → Sweeps Q N f n s (n * single_noise N d B E (P / 2) F) (λ e. singles N Q P B d keys e n)
  pub paired_sweeps : (Q N P B d E F : ℕ) (f : Poly) → 0 < Q → Covers Q P B d → weight N f ≤ F
      → (n : ℕ) (s : ℕ → ℕ) (keys₁ keys₂ keys₃ : ℕ → ℕ → Poly)
      → ((t : ℕ) → t < 2 * n → s t ≤ 1)
      → ((t : ℕ) → t < n → Selector Q N P B d E f (bit (s (2 * t) * s (2 * t + 1))) (keys₁ t))
      → ((t : ℕ) → t < n → Selector Q N P B d E f (bit (s (2 * t) * (1 - s (2 * t + 1)))) (keys₂ t))
      → ((t : ℕ) → t < n → Selector Q N P B d E f (bit (s (2 * t + 1) * (1 - s (2 * t)))) (keys₃ t))
      → Sweeps Q N f (2 * n) s (n * paired_noise N d B E (P / 2) F) (λ e. pairs N Q P B d keys₁ keys₂ keys₃ e n)
  -- a sweep of noise W after the start
  pub swept : (Q N P B d E G F : ℕ) (f : Poly) → B ≡ 2 * (B / 2) → weight N f ≤ F
      → (σ W : ℕ) (c first last : Poly) (D p : ℕ → Poly)
      → Splits Q N P B d (B / 2) G c D → StartKey Q N P B d E f p → Alike Q N first (taken N d D p)
      → Carries Q N f σ W first last
      → Nearby Q N (N * d * (B / 2) * E + G + W) (mul N f last) (power N σ c)
