-- What a modulus alone is refused for is the least fault that is true of it.
use Rattle.std.proofs.Common.{◌≡◌, ℕ, ◌-◌, ◌%◌, ◌^◌, ◌<◌, ◌≤◌, Bool, true, false, cond, eqb, leb, ◌⊎◌, refl, inl, inr, arith}
use Rattle.std.proofs.lemmas.Bool.{eqb-true, eqb-false, leb-true, leb-false, le-leb, and_parts, and_from, and_cases, both_ways}
use Rattle.faults.specs.declared.fault.Fault.TheVariants.{Field}
use Rattle.faults.specs.Least.{Least, unless}
use Rattle.faults.proofs.Least.{least_unless, least_same}
use Rattle.words.specs.Powers.{Power, is_power, power_within, within}
use Rattle.words.specs.Moduli.{switch_modulus, modulus_broken, WrongModulus}
use Rattle.words.proofs.Powers.{power_passes, passes_power}

-- the tests by their parts
pub within_holds : (low high x : ℕ) → low ≤ x → x ≤ high → within low high x ≡ true
within_holds low high x l h = and_from (leb low x) (leb x high) (le-leb low x l) (le-leb x high h)

pub within_low : (low high x : ℕ) → within low high x ≡ true → low ≤ x
within_low low high x t = leb-true low x (and_parts (leb low x) (leb x high) t).0

pub within_high : (low high x : ℕ) → within low high x ≡ true → x ≤ high
within_high low high x t = leb-true x high (and_parts (leb low x) (leb x high) t).1

pub within_fails : (low high x : ℕ) → within low high x ≡ false → (x < low) ⊎ (high < x)
within_fails low high x t = elim (and_cases (leb low x) (leb x high) t)
    [ inl e ↦ inl (leb-false low x e) | inr e ↦ inr (leb-false x high e) ]

pub power_within_lem : (low high x : ℕ) → x < 2 ^ 32 → Power x → low ≤ x → x ≤ high → power_within low high x ≡ true
power_within_lem low high x few p l h = and_from (is_power x) (within low high x) (power_passes x few p) (within_holds low high x l h)

pub power_within_parts : (low high x : ℕ) → power_within low high x ≡ true → Power x × ((low ≤ x) × (x ≤ high))
power_within_parts low high x t =
    let p = and_parts (is_power x) (within low high x) t in
    (passes_power x p.0, (within_low low high x p.1, within_high low high x p.1))

least_odd : (x : ℕ) → x % 2 ≡ 1 → Least (WrongModulus x) (unless (within 17 (2 ^ 31 - 1) x) (Field 3))
least_odd x odd =
    least_same (λ g. (g ≡ Field 3) × ((x < 17) ⊎ (2 ^ 31 ≤ x))) (WrongModulus x) (unless (within 17 (2 ^ 31 - 1) x) (Field 3))
    (λ g w. inl (w.0, (odd, w.1)))
    (λ g w. elim w [ inl a ↦ (a.0, a.1.1) | inr b ↦ absurd (let e = b.1.0 in omega arith) ])
    (least_unless (within 17 (2 ^ 31 - 1) x) (Field 3) ((x < 17) ⊎ (2 ^ 31 ≤ x))
    (λ e. elim (within_fails 17 (2 ^ 31 - 1) x e) [ inl l ↦ inl l | inr h ↦ inr (omega arith) ])
    (λ p e. elim p [
      | inl l ↦ (let k = within_low 17 (2 ^ 31 - 1) x e in omega arith)
      | inr h ↦ (let k = within_high 17 (2 ^ 31 - 1) x e in omega arith)
    ]))

least_even : (x : ℕ) → x < 2 ^ 32 → x % 2 ≡ 0 → Least (WrongModulus x) (unless (switch_modulus x) (Field 11))
least_even x few even =
    least_same (λ g. (g ≡ Field 11) × (Power x × ((32 ≤ x) × (x ≤ 2 ^ 20)) → ⊥)) (WrongModulus x) (unless (switch_modulus x) (Field 11))
    (λ g w. inr (w.0, (even, w.1)))
    (λ g w. elim w [ inl a ↦ absurd (let e = a.1.0 in omega arith) | inr b ↦ (b.0, b.1.1) ])
    (least_unless (switch_modulus x) (Field 11) (Power x × ((32 ≤ x) × (x ≤ 2 ^ 20)) → ⊥)
    (λ e p. both_ways (switch_modulus x) e (power_within_lem 32 (2 ^ 20) x few p.0 p.1.0 p.1.1))
    (λ p e. p (power_within_parts 32 (2 ^ 20) x e)))

by_parity : (b : Bool) (x : ℕ) → x < 2 ^ 32 → eqb (x % 2) 1 ≡ b
    → Least (WrongModulus x) (cond b (unless (within 17 (2 ^ 31 - 1) x) (Field 3)) (unless (switch_modulus x) (Field 11)))
by_parity true x few e = least_odd x (eqb-true (x % 2) 1 e)
by_parity false x few e = least_even x few (let n = eqb-false (x % 2) 1 e in omega arith)

pub least_modulus : (x : ℕ) → x < 2 ^ 32 → Least (WrongModulus x) (modulus_broken x)
least_modulus x few = by_parity (eqb (x % 2) 1) x few refl
