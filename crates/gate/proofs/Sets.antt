-- What a checked set tells of its numbers.
use Rattle.std.proofs.Common.{◌≡◌, ℕ, suc, ◌+◌, ◌-◌, ◌*◌, ◌/◌, ◌%◌, ◌^◌, ◌<◌, ◌≤◌, ◌⊎◌, sym, refl, ap, ◌∙◌, subst, inl, inr, mul-div_cancel, arith}
use native.Mathlib.Nat.{mul-mod_left}
use Rattle.std.proofs.lemmas.Nat.{pow_below, pow_pos, pow-add}
use Rattle.std.proofs.lemmas.Bool.{cases_order}
use Rattle.algebra.specs.Digits.{Covers}
use Rattle.algebra.specs.Gates.{Closes, ring_noise, switch_noise}
use Rattle.words.specs.Powers.{Power}
use Rattle.set.specs.declared.within.Within.{Within}
use Rattle.set.specs.declared.checked.Set.{Set}
use Rattle.set.specs.Limits.{Limits}
use Rattle.set.specs.Rules.{Rules, rules_broken}
use Rattle.set.proofs.Limits.{limits_of, none_of}
use Rattle.set.proofs.Rules.{rules_of}

-- of two powers of two the smaller divides the larger
exponent_most : (k m : ℕ) → 2 ^ k ≤ 2 ^ m → k ≤ m
exponent_most k m h = elim (cases_order k m)
    [ inl e ↦ omega arith | inr o ↦ elim o [ inl l ↦ omega arith | inr g ↦ absurd (let p = pow_below m k g in omega arith) ] ]

pub powers_divide : (x y : ℕ) → Power x → Power y → x ≤ y → (0 < x) × (y ≡ y / x * x)
powers_divide x y (i, e) (j, f) l =
    let some : 0 < x = subst (λ (n : ℕ). 0 < n) (sym e) (pow_pos i) in
    let le : i ≤ j = exponent_most i j (subst (λ (n : ℕ). n ≤ 2 ^ j) e (subst (λ (n : ℕ). x ≤ n) f l)) in
    let m : j ≡ (j - i) + i = omega arith in
    let p : y ≡ 2 ^ (j - i) * x = f ∙ ap (λ (n : ℕ). 2 ^ n) m ∙ pow-add 2 (j - i) i ∙ ap (λ (n : ℕ). 2 ^ (j - i) * n) (sym e) in
    let d : y / x ≡ 2 ^ (j - i) = ap (λ (n : ℕ). n / x) p ∙ mul-div_cancel (2 ^ (j - i)) some in
    (some, p ∙ ap (λ (n : ℕ). n * x) (sym d))

power_double : (x : ℕ) → Power x → Power (x + x)
power_double x (i, e) = (suc i, ap (λ (n : ℕ). n + n) e ∙ twice i)
  where
    twice : (i : ℕ) → 2 ^ i + 2 ^ i ≡ 2 ^ suc i
    twice i = omega arith

power_even : (x : ℕ) → Power x → 2 ≤ x → (0 < x) × (x ≡ 2 * (x / 2))
power_even x p l = let h = powers_divide 2 x (1, refl) p l in (omega arith, (let e = h.1 in omega arith))

module _ (w : Within) where
  pub limits : Limits w.numbers
  limits = limits_of w.numbers w.fit

  pub circle : w.numbers.degree + w.numbers.degree ≡ (w.numbers.degree + w.numbers.degree) / w.numbers.small * w.numbers.small
  circle =
      (powers_divide w.numbers.small (w.numbers.degree + w.numbers.degree) limits.small_ok.0 (power_double w.numbers.degree limits.degree_ok.0)
      (let h = limits.small_ok.1.1 in omega arith)).1

  pub sixteenth : (0 < w.numbers.small / 16) × (w.numbers.small ≡ 16 * (w.numbers.small / 16))
  sixteenth =
      let l = limits.small_ok.1.0 in
      let h = powers_divide 16 w.numbers.small (4, refl) limits.small_ok.0 (omega arith) in
      let e = h.1 in
      (omega arith, omega arith)

  pub divides : 2 ^ 32 % w.numbers.switch ≡ 0
  divides =
      let l = limits.switch_ok.1.1 in
      let h = powers_divide w.numbers.switch (2 ^ 32) limits.switch_ok.0 (32, refl) (omega arith) in
      ap (λ (n : ℕ). n % w.numbers.switch) h.1 ∙ mul-mod_left (2 ^ 32 / w.numbers.switch) w.numbers.switch

module _ (set : Set) where
  pub rules : Rules set.within.numbers set.stated
  rules = rules_of set.within.numbers set.stated set.within.fit (none_of (rules_broken set.within.numbers set.stated) set.rules)

  pub ring_covers : Covers set.within.numbers.modulus set.within.numbers.dropped set.within.numbers.base set.within.numbers.digits
  ring_covers = record {
    some = (limits set.within).digits_ok.0;
    lowest = lowest;
    even = power_even set.within.numbers.base (limits set.within).base_ok.0 (limits set.within).base_ok.1.0;
    cover = rules.cover.0;
  }
    where
      lowest : (set.within.numbers.dropped ≡ 1) ⊎ ((0 < set.within.numbers.dropped) × (set.within.numbers.dropped ≡ 2 * (set.within.numbers.dropped / 2)))
      lowest = elim (cases_order 1 set.within.numbers.dropped) [
        | inl e ↦ inl (sym e)
        | inr o ↦ elim o [
          | inl l ↦ inr (power_even set.within.numbers.dropped (limits set.within).dropped_ok.0 l)
          | inr g ↦ absurd (let h = (limits set.within).dropped_ok.1.0 in omega arith)
        ]
      ]

  pub switch_covers : Covers set.within.numbers.switch 1 set.within.numbers.radix set.within.numbers.places
  switch_covers = record {
    some = (limits set.within).places_ok.0;
    lowest = inl refl;
    even = power_even set.within.numbers.radix (limits set.within).radix_ok.0 (limits set.within).radix_ok.1.0;
    cover = rules.switch_cover.0;
  }

  pub closes : Closes set.within.numbers.modulus set.within.numbers.switch set.within.numbers.small
      (ring_noise set.within.numbers.degree set.within.numbers.digits set.within.numbers.base set.within.numbers.noise (set.within.numbers.dropped / 2) set.stated)
      set.within.numbers.weight (switch_noise set.within.numbers.degree set.within.numbers.places set.within.numbers.radix set.within.numbers.jitter)
      set.within.numbers.ones set.within.numbers.bound
  closes = rules.closes
