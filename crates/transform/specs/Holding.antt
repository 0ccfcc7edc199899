-- A stage keeps what the blocks of an array hold.
use Rattle.std.specs.Prelude.{◌≡◌, ℕ, suc, ◌+◌, ◌-◌, ◌*◌, ◌/◌, ◌%◌, ◌^◌, ◌<◌, ◌≤◌, List, length, slice_index, slice_index_or, refl}
use Rattle.std.proofs.Common.{sym, ◌∙◌, ap, subst, mul-add, add-mul, mul_assoc, mul_comm, mul_left_comm, mod-eq_of_lt, mod-lt, mul-one, one-mul, zero-mul, add-zero, arith, pow-add}
use Rattle.std.proofs.Math.Nat.{mod-mod, add-mod-mod, add-mod_right, mul-add-mod_self_right}
use Rattle.std.proofs.lemmas.Nat.{mul-add-lt}
use Rattle.rings.specs.Tables.{mirror}
use Rattle.rings.proofs.Mod.{Same, same_add, same_times, same_both}
use Rattle.transform.specs.Stages.{Staged, plus, minus}
use Rattle.transform.specs.Values.{sum}
use Rattle.transform.specs.Pairs.{by_pair}
use Rattle.transform.specs.Sums.{sum_same, sum_is, sum_plus, sum_times, sum_split}

-- the value at z of the polynomial of n coefficients that stand at b, b + m, b + 2 m, ..
abbrev pub strided : List ℕ → ℕ → ℕ → ℕ → ℕ → ℕ
strided x m b n z = sum n (λ k. slice_index x (k * m + b) * z ^ k)

-- the value of a polynomial of n coefficients
abbrev pub value : ℕ → List ℕ → ℕ → ℕ
value n f z = sum n (λ k. slice_index f k * z ^ k)

-- the power of ψ of block b after s stages, for g = N / 2^s: the block is f modulo X^g - ψ^power
abbrev pub power : ℕ → ℕ → ℕ → ℕ
power g s b = g * (2 * mirror s b + 1)

-- after s stages each of the m = 2^s interleaved blocks agrees with f wherever z^g is the block's power
abbrev pub Holds : ℕ → ℕ → ℕ → List ℕ → ℕ → ℕ → ℕ → List ℕ → Type 0
Holds Q ψ n f s m g x =
    (b : ℕ) → b < m → (z : ℕ) → Same Q (z ^ g) (ψ ^ power g s b) → Same Q (strided x m b g z) (value n f z)

-- the roots of stage s, for 2^s blocks whose halves have g words
abbrev pub Roots : ℕ → ℕ → ℕ → ℕ → List ℕ → Type 0
Roots Q ψ s g w = (j : ℕ) → j < length w → Same Q (slice_index w j) (ψ ^ (g * (2 * mirror s (j % 2 ^ s) + 1)))

-- ---- one block
-- the block 2 b + d of y, which has twice as many blocks, agrees with the block b of x where z^h is c
step : (Q m b d h c z : ℕ) (x y : List ℕ)
    → ((k : ℕ) → k < h → Same Q (slice_index y (k * (2 * m) + (2 * b + d))) (slice_index x (k * m + b) + c * slice_index x ((h + k) * m + b)))
    → Same Q (z ^ h) c → Same Q (strided y (2 * m) (2 * b + d) h z) (strided x m b (h + h) z)
step Q m b d h c z x y made root =
    let low : ℕ → ℕ = λ k. slice_index_or x (k * m + b) 0 in
    let high : ℕ → ℕ = λ k. slice_index_or x ((h + k) * m + b) 0 in
    let new : ℕ → ℕ = λ k. slice_index_or y (k * (2 * m) + (2 * b + d)) 0 in
    let lo : ℕ → ℕ = λ k. low k * z ^ k in
    let hi : ℕ → ℕ = λ k. high k * z ^ k in
    let term : (k : ℕ) → k < h → Same Q (new k * z ^ k) (lo k + c * hi k) =
    λ k l. same_times Q (new k) (low k + c * high k) (z ^ k) (made k l)
    ∙ ap (λ n. n % Q) (add-mul (low k) (c * high k) (z ^ k) ∙ ap (λ n. lo k + n) (mul_assoc c (high k) (z ^ k))) in
    let one : Same Q (sum h (λ k. new k * z ^ k)) (sum h (λ k. lo k + c * hi k)) =
    sum_same Q h (λ k. new k * z ^ k) (λ k. lo k + c * hi k) term in
    let two : sum h (λ k. lo k + c * hi k) ≡ sum h lo + c * sum h hi =
    sum_plus h lo (λ k. c * hi k) ∙ ap (λ n. sum h lo + n) (sum_times h c hi) in
    let three : Same Q (sum h lo + z ^ h * sum h hi) (sum h lo + c * sum h hi) =
    same_add Q (sum h lo) (sum h lo) (z ^ h * sum h hi) (c * sum h hi) refl (same_times Q (z ^ h) c (sum h hi) root) in
    let move : (k : ℕ) → high k * z ^ (h + k) ≡ z ^ h * hi k =
    λ k. ap (λ n. high k * n) (pow-add z h k) ∙ mul_left_comm (high k) (z ^ h) (z ^ k) in
    let four : sum h (λ k. high k * z ^ (h + k)) ≡ z ^ h * sum h hi =
    sum_is h (λ k. high k * z ^ (h + k)) (λ k. z ^ h * hi k) move ∙ sum_times h (z ^ h) hi in
    let five : strided x m b (h + h) z ≡ sum h lo + z ^ h * sum h hi =
    sum_split h h lo ∙ ap (λ n. sum h lo + n) four in
    one ∙ (ap (λ n. n % Q) two ∙ (sym three ∙ ap (λ n. n % Q) (sym five)))

-- ---- Q - 1 is -1
minus_is : (Q e n : ℕ) → n + 1 ≡ Q → e ≤ Q → Same Q (Q - e) (e * n)
minus_is Q e n t h =
    let a : e * (n + 1) ≡ e * n + e * 1 = mul-add e n 1 in
    let b : e * 1 ≡ e = mul-one e in
    let c : e * (n + 1) ≡ e * Q = ap (λ i. e * i) t in
    let whole : e * Q + (Q - e) ≡ e * n + Q = omega arith in
    sym (mul-add-mod_self_right e Q (Q - e)) ∙ (ap (λ i. i % Q) whole ∙ add-mod_right (e * n) Q)

square_one : (Q n : ℕ) → n + 1 ≡ Q → Same Q (n * n) 1
square_one Q n t =
    let a : n * (n + 1) ≡ n * n + n * 1 = mul-add n n 1 in
    let b : n * 1 ≡ n = mul-one n in
    let c : n * (n + 1) ≡ n * Q = ap (λ i. n * i) t in
    let whole : n * n + Q ≡ n * Q + 1 = omega arith in
    sym (add-mod_right (n * n) Q) ∙ (ap (λ i. i % Q) whole ∙ mul-add-mod_self_right n Q 1)

-- ---- the powers of a block's two children
mirror_is : (s b d : ℕ) → d < 2 → mirror (suc s) (2 * b + d) ≡ mirror s b + d * 2 ^ s
mirror_is s b d h =
    let a : (2 * b + d) / 2 ≡ b = omega arith in
    let c : (2 * b + d) % 2 ≡ d = omega arith in
    ap (λ i. mirror s i + (2 * b + d) % 2 * 2 ^ s) a ∙ ap (λ i. mirror s b + i * 2 ^ s) c

left_power : (g s b : ℕ) → power g (suc s) (2 * b + 0) ≡ power g s b
left_power g s b =
    ap (λ i. g * (2 * i + 1))
    (mirror_is s b 0 (omega arith) ∙ (ap (λ i. mirror s b + i) (zero-mul (2 ^ s)) ∙ add-zero (mirror s b)))

right_power : (g s b h : ℕ) → g * 2 ^ s ≡ h → power g (suc s) (2 * b + 1) ≡ power g s b + 2 * h
right_power g s b h e =
    let a : mirror (suc s) (2 * b + 1) ≡ mirror s b + 1 * 2 ^ s = mirror_is s b 1 (omega arith) in
    let o : 1 * 2 ^ s ≡ 2 ^ s = one-mul (2 ^ s) in
    let i : 2 * mirror (suc s) (2 * b + 1) + 1 ≡ (2 * mirror s b + 1) + 2 * 2 ^ s = omega arith in
    let j : g * (2 * 2 ^ s) ≡ 2 * (g * 2 ^ s) = mul_left_comm g 2 (2 ^ s) in
    ap (λ n. g * n) i
    ∙ (mul-add g (2 * mirror s b + 1) (2 * 2 ^ s) ∙ ap (λ n. power g s b + n) (j ∙ ap (λ n. 2 * n) e))

-- a stage: n is Q - 1, and ψ^(2 h) is -1
pub record Stage (Q ψ s g h n : ℕ) (w x y : List ℕ) : Type 0 where
  pub top : n + 1 ≡ Q
  pub neg : Same Q (ψ ^ (2 * h)) n
  pub halves : g * 2 ^ s ≡ h
  pub long : length w ≡ h
  pub roots : Roots Q ψ s g w
  pub done : Staged Q w x y (length w)

-- where an element stands before and after the stage
in_range : (k b m g h : ℕ) → k < g → b < m → g * m ≡ h → k * m + b < h
in_range k b m g h hk hb e = omega (arith, mul-add-lt k m b g hk hb)

spot : (k b m d : ℕ) → 2 * (k * m + b) + d ≡ k * (2 * m) + (2 * b + d)
spot k b m d = let a : k * (2 * m) ≡ 2 * (k * m) = mul_left_comm k 2 m in omega arith

far : (k b m g h l : ℕ) → g * m ≡ h → l ≡ h → k * m + b + l ≡ (g + k) * m + b
far k b m g h l e f = let a : (g + k) * m ≡ g * m + k * m = add-mul g k m in omega arith

under : (k b m : ℕ) → b < m → (k * m + b) % m ≡ b
under k b m h = mul-add-mod_self_right k m b ∙ mod-eq_of_lt h

module _ (Q ψ s g h n : ℕ) (w x y : List ℕ) (t : Stage Q ψ s g h n w x y) where
  -- z^(2 g) is the parent's power, for either child
  up_left : (b z : ℕ) → Same Q (z ^ g) (ψ ^ power g s b) → Same Q (z ^ (g + g)) (ψ ^ power (g + g) s b)
  up_left b z r =
      let p : ℕ = power g s b in
      let e : p + p ≡ power (g + g) s b = sym (add-mul g g (2 * mirror s b + 1)) in
      ap (λ n. n % Q) (pow-add z g g)
      ∙ (same_both Q (z ^ g) (ψ ^ p) (z ^ g) (ψ ^ p) r r ∙ ap (λ n. n % Q) (sym (pow-add ψ p p) ∙ ap (λ n. ψ ^ n) e))

  turned : (p : ℕ) → Same Q (ψ ^ (p + 2 * h)) (ψ ^ p * n)
  turned p = ap (λ i. i % Q) (pow-add ψ p (2 * h)) ∙ same_both Q (ψ ^ p) (ψ ^ p) (ψ ^ (2 * h)) n refl t.neg

  up_right : (b z : ℕ) → Same Q (z ^ g) (ψ ^ (power g s b + 2 * h)) → Same Q (z ^ (g + g)) (ψ ^ power (g + g) s b)
  up_right b z r =
      let p : ℕ = power g s b in
      let a : ℕ = ψ ^ p in
      let m2 : Same Q (z ^ g) (a * n) = r ∙ turned p in
      let m3 : Same Q (z ^ (g + g)) (a * n * (a * n)) =
      ap (λ i. i % Q) (pow-add z g g) ∙ same_both Q (z ^ g) (a * n) (z ^ g) (a * n) m2 m2 in
      let e : a * n * (a * n) ≡ a * a * (n * n) =
      mul_assoc a n (a * n) ∙ (ap (λ i. a * i) (mul_left_comm n a n) ∙ sym (mul_assoc a a (n * n))) in
      let m4 : Same Q (a * a * (n * n)) (a * a * 1) = same_both Q (a * a) (a * a) (n * n) 1 refl (square_one Q n t.top) in
      let up : a * a * 1 ≡ ψ ^ power (g + g) s b =
      mul-one (a * a) ∙ (sym (pow-add ψ p p) ∙ ap (λ i. ψ ^ i) (sym (add-mul g g (2 * mirror s b + 1)))) in
      m3 ∙ (ap (λ i. i % Q) e ∙ (m4 ∙ ap (λ i. i % Q) up))

  inside : (k b : ℕ) → k < g → b < 2 ^ s → k * 2 ^ s + b < length w
  inside k b hk hb = omega (arith, t.long, in_range k b (2 ^ s) g h hk hb t.halves)

  root_at : (k b : ℕ) → k < g → b < 2 ^ s → Same Q (slice_index w (k * 2 ^ s + b)) (ψ ^ power g s b)
  root_at k b hk hb =
      t.roots (k * 2 ^ s + b) (inside k b hk hb) ∙ ap (λ i. ψ ^ (g * (2 * mirror s i + 1)) % Q) (under k b (2 ^ s) hb)

  child_left : (b : ℕ) → b < 2 ^ s → (k : ℕ) → k < g
      → Same Q (slice_index y (k * (2 * 2 ^ s) + (2 * b + 0))) (slice_index x (k * 2 ^ s + b) + ψ ^ power g s b * slice_index x ((g + k) * 2 ^ s + b))
  child_left b hb k hk =
      let j : ℕ = k * 2 ^ s + b in
      let c : ℕ = ψ ^ power g s b in
      let a : ℕ = slice_index_or x j 0 in
      let v : ℕ = slice_index_or x (j + length w) 0 in
      let u : ℕ = slice_index_or w j 0 in
      let sp : 2 * j ≡ k * (2 * 2 ^ s) + (2 * b + 0) = omega (arith, spot k b (2 ^ s) 0) in
      let one : slice_index_or y (2 * j) 0 ≡ plus Q w x j = (t.done j (inside k b hk hb)).0 in
      let two : Same Q (v * u) (c * v) = ap (λ i. i % Q) (mul_comm v u) ∙ same_times Q u c v (root_at k b hk hb) in
      ap (λ i. slice_index y i % Q) (sym sp)
      ∙ (ap (λ i. i % Q) one
      ∙ (mod-mod (a + v * u % Q) Q
      ∙ (add-mod-mod a (v * u) Q
      ∙ (same_add Q a a (v * u) (c * v) refl two
      ∙ ap (λ i. (a + c * slice_index x i) % Q) (far k b (2 ^ s) g h (length w) t.halves t.long)))))

  child_right : (b : ℕ) → b < 2 ^ s → (k : ℕ) → k < g
      → Same Q (slice_index y (k * (2 * 2 ^ s) + (2 * b + 1))) (slice_index x (k * 2 ^ s + b) + ψ ^ (power g s b + 2 * h) * slice_index x ((g + k) * 2 ^ s + b))
  child_right b hb k hk =
      let j : ℕ = k * 2 ^ s + b in
      let p : ℕ = power g s b in
      let c : ℕ = ψ ^ (p + 2 * h) in
      let a : ℕ = slice_index_or x j 0 in
      let v : ℕ = slice_index_or x (j + length w) 0 in
      let u : ℕ = slice_index_or w j 0 in
      let top : n + 1 ≡ Q = t.top in
      let q0 : 0 < Q = omega arith in
      let less : v * u % Q < Q = mod-lt (v * u) q0 in
      let one : slice_index_or y (2 * j + 1) 0 ≡ minus Q w x j = (t.done j (inside k b hk hb)).1 in
      let two : Same Q (Q - v * u % Q) (v * u % Q * n) = minus_is Q (v * u % Q) n top (omega arith) in
      let three : Same Q (v * u % Q * n) (v * u * n) = same_times Q (v * u % Q) (v * u) n (mod-mod (v * u) Q) in
      let four : v * u * n ≡ u * n * v = mul_assoc v u n ∙ mul_comm v (u * n) in
      let five : Same Q (u * n) (ψ ^ p * n) = same_times Q u (ψ ^ p) n (root_at k b hk hb) in
      let six : Same Q (u * n) c = five ∙ sym (turned p) in
      let seven : Same Q (Q - v * u % Q) (c * v) =
      two ∙ (three ∙ (ap (λ i. i % Q) four ∙ same_times Q (u * n) c v six)) in
      ap (λ i. slice_index y i % Q) (sym (spot k b (2 ^ s) 1))
      ∙ (ap (λ i. i % Q) one
      ∙ (mod-mod (a + (Q - v * u % Q)) Q
      ∙ (same_add Q a a (Q - v * u % Q) (c * v) refl seven
      ∙ ap (λ i. (a + c * slice_index x i) % Q) (far k b (2 ^ s) g h (length w) t.halves t.long))))

  -- one stage keeps what the array holds
  pub holds_next : (N : ℕ) (f : List ℕ) → Holds Q ψ N f s (2 ^ s) (g + g) x → Holds Q ψ N f (suc s) (2 * 2 ^ s) g y
  holds_next N f before =
      by_pair (2 ^ s) (λ b. (z : ℕ) → Same Q (z ^ g) (ψ ^ power g (suc s) b) → Same Q (strided y (2 * 2 ^ s) b g z) (value N f z))
      (λ b hb. (
        λ z r. subst (λ (i : ℕ). Same Q (strided y (2 * 2 ^ s) i g z) (value N f z)) (even b) (left b hb z (r ∙ to-left b)),
        λ z r. right b hb z (r ∙ ap (λ i. ψ ^ i % Q) (right_power g s b h t.halves)),
      ))
    where
      even : (b : ℕ) → 2 * b + 0 ≡ 2 * b
      even b = omega arith

      to-left : (b : ℕ) → Same Q (ψ ^ power g (suc s) (2 * b)) (ψ ^ power g s b)
      to-left b = ap (λ i. ψ ^ i % Q) (ap (λ i. power g (suc s) i) (sym (even b)) ∙ left_power g s b)

      left : (b : ℕ) → b < 2 ^ s → (z : ℕ) → Same Q (z ^ g) (ψ ^ power g s b)
          → Same Q (strided y (2 * 2 ^ s) (2 * b + 0) g z) (value N f z)
      left b hb z r = step Q (2 ^ s) b 0 g (ψ ^ power g s b) z x y (child_left b hb) r ∙ before b hb z (up_left b z r)

      right : (b : ℕ) → b < 2 ^ s → (z : ℕ) → Same Q (z ^ g) (ψ ^ (power g s b + 2 * h))
          → Same Q (strided y (2 * 2 ^ s) (2 * b + 1) g z) (value N f z)
      right b hb z r =
          step Q (2 ^ s) b 1 g (ψ ^ (power g s b + 2 * h)) z x y (child_right b hb) r ∙ before b hb z (up_right b z r)
