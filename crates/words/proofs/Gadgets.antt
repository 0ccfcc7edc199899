-- What the numbers of a gadget are refused for is the least fault that is true of them; and the facts of one that is made.
use Rattle.std.proofs.Common.{◌≡◌, ℕ, zero, suc, ◌+◌, ◌-◌, ◌*◌, ◌%◌, ◌^◌, ◌<◌, ◌≤◌, Bool, true, false, ◌&&◌, eqb, leb, sym, refl, ap, ◌∙◌, inl, inr, mul-zero, mul-suc, arith, pow_mono}
use native.Mathlib.Nat.{pow-zero, pow-succ', lt_of_not-le}
use Rattle.std.proofs.lemmas.Nat.{pow-add, pow_below, one_shl}
use Rattle.std.proofs.lemmas.Bool.{eqb-true, eq-eqb, leb-true, le-leb, lt-leb, and_parts, and_from, and_right, both_ways}
use Rattle.faults.specs.declared.fault.Fault.TheVariants.{Field, Cover}
use Rattle.faults.specs.Least.{Least}
use Rattle.faults.proofs.Least.{row_first, row_last}
use Rattle.words.specs.Powers.{Power, log2, is_power, power_within, within}
use Rattle.words.specs.Moduli.{ring_modulus, switch_modulus}
use Rattle.words.specs.Gadgets.{covers, ring_gadget_broken, switch_gadget_broken, WrongRingGadget, WrongSwitchGadget}
use Rattle.words.proofs.Moduli.{within_holds, within_low, within_high, power_within_lem, power_within_parts}

-- a power of a power of two
pub power_times : (w d : ℕ) → (2 ^ w) ^ d ≡ 2 ^ (w * d)
power_times w zero = pow-zero (2 ^ w) ∙ ap (λ (n : ℕ). 2 ^ n) (sym (mul-zero w))
power_times w (suc d) =
    let e : w + w * d ≡ w * suc d = omega (arith, mul-suc w d) in
    pow-succ' (2 ^ w) d ∙ ap (λ (n : ℕ). 2 ^ w * n) (power_times w d) ∙ sym (pow-add 2 w (w * d)) ∙ ap (λ (n : ℕ). 2 ^ n) e

-- the reach of the digits as one power of two
pub reach_is : (s w d : ℕ) → 2 ^ s * (2 ^ w) ^ d ≡ 2 ^ (s + w * d)
reach_is s w d = ap (λ (n : ℕ). 2 ^ s * n) (power_times w d) ∙ sym (pow-add 2 s (w * d))

pub covers_not : (R s w d : ℕ) → 40 < s + w * d → covers R (2 ^ s) (2 ^ w) d ≡ false
covers_not R s w d h =
    let e = reach_is s w d in
    let p = pow_below 40 (s + w * d) h in
    and_right (leb R (2 ^ s * (2 ^ w) ^ d)) (leb (2 ^ s * (2 ^ w) ^ d) (2 ^ 40)) (lt-leb (2 ^ s * (2 ^ w) ^ d) (2 ^ 40) (rw e p))

pub covers_is : (R s w d : ℕ) → s + w * d ≤ 40 → leb R ((1 * 2 ^ (s + w * d)) % 2 ^ 64) ≡ covers R (2 ^ s) (2 ^ w) d
covers_is R s w d h =
    let e = reach_is s w d in
    let o = one_shl (s + w * d) 64 (omega arith) in
    let t : leb (2 ^ s * (2 ^ w) ^ d) (2 ^ 40) ≡ true = le-leb (2 ^ s * (2 ^ w) ^ d) (2 ^ 40) (rw e (pow_mono h)) in
    rw (o, sym e) (sym (with-true (leb R (2 ^ s * (2 ^ w) ^ d)) (leb (2 ^ s * (2 ^ w) ^ d) (2 ^ 40)) t))
  where
    with-true : (a b : Bool) → b ≡ true → (a && b) ≡ a
    with-true true b e = e
    with-true false b e = refl

-- the logarithm of a power of two within its limits
log_eq : (x : ℕ) → is_power x ≡ true → 2 ^ log2 x ≡ x
log_eq x t = sym (eqb-true x (2 ^ log2 x) t)

pub log_power : (low high x : ℕ) → power_within low high x ≡ true → 2 ^ log2 x ≡ x
log_power low high x t = log_eq x (and_parts (is_power x) (within low high x) t).0

pub exponent_few : (k : ℕ) → 2 ^ k ≤ 65536 → k ≤ 16
exponent_few k h = let b : k < 17 = lt_of_not-le (λ (l : 17 ≤ k). let p : 2 ^ 17 ≤ 2 ^ k = pow_mono l in omega arith) in omega arith

pub exponent_some : (k : ℕ) → 2 ≤ 2 ^ k → 1 ≤ k
exponent_some zero h = absurd (omega arith)
exponent_some (suc k) h = omega arith

-- each test tells its rule
pub power_told : (low high x : ℕ) → x < 2 ^ 32 → power_within low high x ≡ false → (Power x × ((low ≤ x) × (x ≤ high))) → ⊥
power_told low high x few e p = both_ways (power_within low high x) e (power_within_lem low high x few p.0 p.1.0 p.1.1)

pub within_told : (low high x : ℕ) → within low high x ≡ false → ((low ≤ x) × (x ≤ high)) → ⊥
within_told low high x e p = both_ways (within low high x) e (within_holds low high x p.0 p.1)

pub within_parts : (low high x : ℕ) → within low high x ≡ true → (low ≤ x) × (x ≤ high)
within_parts low high x e = (within_low low high x e, within_high low high x e)

pub ring_told : (x : ℕ) → ring_modulus x ≡ false → ((x % 2 ≡ 1) × ((17 ≤ x) × (x < 2 ^ 31))) → ⊥
ring_told x e p =
    both_ways (ring_modulus x) e
    (and_from (eqb (x % 2) 1) (within 17 (2 ^ 31 - 1) x) (eq-eqb (x % 2) 1 p.0)
    (within_holds 17 (2 ^ 31 - 1) x p.1.0 (let h = p.1.1 in omega arith)))

pub ring_parts : (x : ℕ) → ring_modulus x ≡ true → (x % 2 ≡ 1) × ((17 ≤ x) × (x < 2 ^ 31))
ring_parts x e =
    let p = and_parts (eqb (x % 2) 1) (within 17 (2 ^ 31 - 1) x) e in
    let h = within_high 17 (2 ^ 31 - 1) x p.1 in
    (eqb-true (x % 2) 1 p.0, (within_low 17 (2 ^ 31 - 1) x p.1, omega arith))

pub covers_told : (R P B d : ℕ) → covers R P B d ≡ false → ((R ≤ P * B ^ d) × (P * B ^ d ≤ 2 ^ 40)) → ⊥
covers_told R P B d e p =
    both_ways (covers R P B d) e
    (and_from (leb R (P * B ^ d)) (leb (P * B ^ d) (2 ^ 40)) (le-leb R (P * B ^ d) p.0) (le-leb (P * B ^ d) (2 ^ 40) p.1))

pub covers_parts : (R P B d : ℕ) → covers R P B d ≡ true → (R ≤ P * B ^ d) × (P * B ^ d ≤ 2 ^ 40)
covers_parts R P B d e =
    let q = and_parts (leb R (P * B ^ d)) (leb (P * B ^ d) (2 ^ 40)) e in
    (leb-true R (P * B ^ d) q.0, leb-true (P * B ^ d) (2 ^ 40) q.1)

-- the rows of a ring's gadget
pub ring_gadget_least : (Q P B d : ℕ) → P < 2 ^ 32 → B < 2 ^ 32 → Least (WrongRingGadget Q P B d) (ring_gadget_broken Q P B d)
ring_gadget_least Q P B d fp fb =
    (row_first (Field 3) (Field 5) _ _ (ring_modulus Q) _ (inr (refl, inl (omega arith))) (ring_told Q) (λ p e. p (ring_parts Q e))
    (row_first (Field 5) (Field 6) _ _ (power_within 1 65536 P) _ (inr (refl, inl (omega arith))) (power_told 1 65536 P fp) (λ p e. p (power_within_parts 1 65536 P e))
    (row_first (Field 6) (Field 7) _ _ (power_within 2 65536 B) _ (inr (refl, inl (omega arith))) (power_told 2 65536 B fb) (λ p e. p (power_within_parts 2 65536 B e))
    (row_first (Field 7) (Cover 7) _ _ (within 1 31 d) _ (inl (omega arith)) (within_told 1 31 d) (λ p e. p (within_parts 1 31 d e))
    (row_last (Cover 7) (covers Q P B d) _ (covers_told Q P B d) (λ p e. p (covers_parts Q P B d e))))))).least

-- the rows of the switch's gadget
pub switch_gadget_least : (M C k : ℕ) → M < 2 ^ 32 → C < 2 ^ 32 → Least (WrongSwitchGadget M C k) (switch_gadget_broken M C k)
switch_gadget_least M C k fm fc =
    (row_first (Field 11) (Field 12) _ _ (switch_modulus M) _ (inr (refl, inl (omega arith))) (power_told 32 (2 ^ 20) M fm) (λ p e. p (power_within_parts 32 (2 ^ 20) M e))
    (row_first (Field 12) (Field 13) _ _ (power_within 2 1024 C) _ (inr (refl, inl (omega arith))) (power_told 2 1024 C fc) (λ p e. p (power_within_parts 2 1024 C e))
    (row_first (Field 13) (Cover 13) _ _ (within 1 20 k) _ (inl (omega arith)) (within_told 1 20 k) (λ p e. p (within_parts 1 20 k e))
    (row_last (Cover 13) (covers M 1 C k) _ (covers_told M 1 C k) (λ p e. p (covers_parts M 1 C k e)))))).least
