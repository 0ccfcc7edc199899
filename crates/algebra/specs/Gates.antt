-- Defines the stages of a gate after its sweep: the test polynomial, phases, extraction, rounding and the switch.
use Rattle.std.specs.Prelude.{◌≡◌, ℕ, suc, ◌+◌, ◌-◌, ◌*◌, ◌/◌, ◌%◌, ◌^◌, ◌<◌, ◌≤◌, cond, ◌⊎◌, List, map, ℤ, pos, ◌+ℤ◌, ◌-ℤ◌, ◌*ℤ◌, neg_ℤ, ◌==◌, nat_lt, slice_index, unsigned_abs}
use Rattle.std.specs.List.{range_with_len}
use Rattle.algebra.specs.Ints.{sum_z, Cong}
use Rattle.algebra.specs.Polys.{Poly, power, weight}
use Rattle.algebra.specs.Near.{Near}
use Rattle.algebra.specs.Words.{coeffs, words}
use Rattle.algebra.specs.Digits.{word_digit, Covers}
use Rattle.algebra.specs.Keys.{StartKey}
use Rattle.algebra.specs.Sweeps.{external, total}

-- -δ at places 0 to N/2, and δ above
abbrev pub test : ℕ → ℤ → Poly
test N δ k = cond (nat_lt (N / 2) k) δ (neg_ℤ δ)

-- X^e times the test polynomial, as words
unfoldable pub beginning : ℕ → ℕ → ℕ → List ℕ
beginning N Q e = words N Q (power N e (test N (pos (Q / 8))))

-- 1 from low on and below high, and 0 elsewhere
abbrev pub inside : ℕ → ℕ → ℕ → ℕ
inside low high r = cond (nat_lt r low) 0 (cond (nat_lt r high) 1 0)

-- on which half of the circle of the 2N exponents of X σ lies
abbrev pub side : ℕ → ℕ → ℕ
side N σ = inside (N / 2) (N + N / 2) (σ % (N + N))

-- the phase of n + 1 words under the secret s: the last word plus the sum of s_j c_j
abbrev pub phase : ℕ → (ℕ → ℤ) → (ℕ → ℤ) → ℤ
phase n s c = c n +ℤ sum_z n (λ j. s j *ℤ c j)

-- n + 1 words hold the bit m with noise at most V
abbrev pub Holds : ℕ → ℕ → ℕ → (ℕ → ℤ) → ℕ → List ℕ → Type 0
Holds n q V s m xs = Near q V (phase n s (coeffs xs)) (pos (m * (q / 4)))

-- the start of a gate: words xs and ys combined to o q/8 - t (xs + ys), where (o, t) is
-- (5, 1) for NAND, (1, 1) for AND, (7, 1) for OR, (3, 1) for NOR, (0, 2) for XOR and (4, 2) for XNOR
unfoldable pub combine : ℕ → ℕ → ℕ → ℕ → List ℕ → List ℕ → List ℕ
combine n q o t xs ys =
    words (suc n) q (λ j. cond (j == n) (pos (o * (q / 8))) (pos 0) -ℤ pos t *ℤ (coeffs xs j +ℤ coeffs ys j))

abbrev pub Letter : ℕ → ℕ → Type 0
Letter o t = (o < 8) × (((t ≡ 1) × (o % 2 ≡ 1)) ⊎ ((t ≡ 2) × (o % 4 ≡ 0)))

-- the gate's answer to the bits a and b: 1 where the phase, in eighths of q, is from 2 to 5
abbrev pub outcome : ℕ → ℕ → ℕ → ℕ → ℕ
outcome o t a b = inside 2 6 ((o + 16 - 2 * (t * (a + b))) % 8)

-- the phase of words under a secret of bits s, before it is taken modulo q
abbrev pub exponent : ℕ → (ℕ → ℕ) → List ℕ → ℕ
exponent n s xs = slice_index xs n + total n (λ j. slice_index xs j * s j)

-- the words of the opposite bit
unfoldable pub invert : ℕ → ℕ → List ℕ → List ℕ
invert n q xs = words (suc n) q (λ j. cond (j == n) (pos (q / 4)) (pos 0) -ℤ coeffs xs j)

-- extraction: the words whose phase under f is δ plus the constant coefficient of f c
abbrev pub extracted : ℕ → ℤ → Poly → ℕ → ℤ
extracted N δ c j = cond (j == N) δ (cond (j == 0) (c 0) (neg_ℤ (c (N - j))))

unfoldable pub extract : ℕ → ℕ → List ℕ → List ℕ
extract N Q xs = words (suc N) Q (extracted N (pos (Q / 8)) (coeffs xs))

-- the word c of modulus R, rounded to the modulus S
abbrev pub rounded : ℕ → ℕ → ℕ → ℕ
rounded R S c = (2 * c * S + R) / (2 * R)

-- what a phase x modulo R becomes where its words are rounded to S, for a secret of weight F: 2 R φ is near 2 S x
pub record Rounds (R S F : ℕ) (x φ : ℤ) : Type 0 where
  pub near : ℤ
  pub is : Cong S φ near
  pub small : unsigned_abs (pos (2 * R) *ℤ near -ℤ pos (2 * S) *ℤ x) ≤ R * (1 + F)

unfoldable pub narrow : ℕ → ℕ → ℕ → List ℕ → List ℕ
narrow n R S xs = map (λ j. rounded R S (slice_index xs j) % S) (range_with_len 0 n)

-- switch rows: for j below N and i below k, n + 1 words of phase f_j C^i under s, up to a noise of at most Z
abbrev pub SwitchKey : ℕ → ℕ → ℕ → ℕ → ℕ → ℕ → (ℕ → ℤ) → (ℕ → ℤ) → (ℕ → ℕ → ℕ → ℤ) → Type 0
SwitchKey M N n C k Z f s row =
    (j : ℕ) → j < N → (i : ℕ) → i < k → Near M Z (phase n s (row j i)) (f j *ℤ pos (C ^ i))

-- the switch: from n zeros and b, add digit i of word j times row (j, i)
abbrev pub switched : ℕ → ℕ → ℕ → (ℕ → ℕ → ℤ) → (ℕ → ℕ → ℕ → ℤ) → ℤ → ℕ → ℤ
switched N n k D row b t = cond (t == n) b (pos 0) +ℤ sum_z N (λ j. sum_z k (λ i. D j i *ℤ row j i t))

unfoldable pub switch : ℕ → ℕ → ℕ → ℕ → ℕ → (ℕ → ℕ → ℕ → ℤ) → List ℕ → List ℕ
switch N n M C k row xs = words (suc n) M (switched N n k (λ j. word_digit M 1 C k (slice_index xs j)) row (pos (slice_index xs N)))

-- from the swept accumulator to the gate's answer: extract, round to M, switch, round to q
abbrev pub refresh : ℕ → ℕ → ℕ → ℕ → ℕ → ℕ → ℕ → (ℕ → ℕ → ℕ → ℤ) → List ℕ → List ℕ
refresh N n Q M q C k row acc = narrow (suc n) M q (switch N n M C k row (narrow (suc N) Q M (extract N Q acc)))

-- a whole gate: combine, take the turned test polynomial by the start key, sweep, refresh
unfoldable pub gate : (N n q Q P B d M C k : ℕ) → (ℕ → Poly) → ((ℕ → ℕ) → List ℕ → List ℕ) → (ℕ → ℕ → ℕ → ℤ)
    → ℕ → ℕ → List ℕ → List ℕ → List ℕ
gate N n q Q P B d M C k start sweep row o t xs ys =
    let zs : List ℕ = combine n q o t xs ys in
    let first : List ℕ = words N Q (external N Q P B d (beginning N Q ((N + N) / q * slice_index zs n)) start) in
    refresh N n Q M q C k row (sweep (λ j. (N + N) / q * slice_index zs j) first)

-- the noise of the ring, for a sweep's noise S, and of the switch
abbrev pub ring_noise : ℕ → ℕ → ℕ → ℕ → ℕ → ℕ → ℕ
ring_noise N d B E G S = N * d * (B / 2) * E + G + S

abbrev pub switch_noise : ℕ → ℕ → ℕ → ℕ → ℕ
switch_noise N k C Z = N * k * (C / 2) * Z

-- the closing rule: noises V of the ring, W of the switch and those of both roundings leave at most β
abbrev pub Closes : ℕ → ℕ → ℕ → ℕ → ℕ → ℕ → ℕ → ℕ → Type 0
Closes Q M q V F W h β = 2 * q * M * (V + 2) + q * Q * (1 + F + 2 * W) + Q * M * (1 + h) ≤ 2 * Q * M * β

-- numbers, secrets f and s, a start key and switch rows that fit, for a sweep of noise S
pub record Fits (N n q Q P B d E F h M C k Z β S : ℕ) (f : Poly) (s : ℕ → ℕ) (start : ℕ → Poly) (row : ℕ → ℕ → ℕ → ℤ) : Type 0 where
  pub length_some : 0 < N
  pub circle : N + N ≡ (N + N) / q * q
  pub sixteenth : (0 < q / 16) × (q ≡ 16 * (q / 16))
  pub moduli : (0 < Q) × (0 < M)
  pub covers : Covers Q P B d × Covers M 1 C k
  pub light : (weight N f ≤ F) × (weight n (λ j. pos (s j)) ≤ h)
  pub starts : StartKey Q N P B d E f start
  pub switches : SwitchKey M N n C k Z f (λ j. pos (s j)) row
  pub closes : Closes Q M q (ring_noise N d B E (P / 2) S) F (switch_noise N k C Z) h β
