-- A sweep states one number for sixteen numbers, whatever they are.
use Rattle.std.proofs.Common.{◌≡◌, ℕ, Bool, true, false, is_some, sym, refl, ap, ◌∙◌, arith}
use Rattle.std.proofs.lemmas.Bool.{both_ways}
use Rattle.set.specs.declared.numbers.Numbers.{Numbers}
use Rattle.set.specs.declared.within.Within.{Within}
use Rattle.set.specs.Limits.{limits_broken}
use Rattle.set.proofs.Limits.{limits_of}
use Rattle.sweeps.specs.Checking.{StatedFor}
use Rattle.sweeps.proofs.Unique.{within_same}

-- numbers that are within their limits, as such
held : (n : Numbers) → is_some (limits_broken n) ≡ false → (w : Within) × (w.numbers ≡ n)
held n fit =
    let l = limits_of n fit in
    let d = l.degree_ok.1 in
    let q = l.small_ok.1 in
    let s = l.switch_ok.1 in
    let b = l.bound_ok in (
      record {
        numbers = n;
        fit = fit;
        lengths = (d.0, d.1, l.dimension_ok.1.0, l.dimension_ok.1.1);
        moduli = (q.0, q.1, l.modulus_ok.1.0, l.modulus_ok.1.1);
        split = (l.dropped_ok.1.1, l.base_ok.1.1, l.digits_ok.0, l.digits_ok.1, l.noise_ok.1);
        secrets = (l.weight_ok.1, l.ones_ok.1, l.dimension_ok.0);
        switching = (omega (arith, q, s), s.1, l.radix_ok.1.1, l.places_ok.0, l.places_ok.1);
        last = (l.jitter_ok.1, omega (arith, b, q, d));
      },
      refl,
    )

told_by : (noise : Within → ℕ) (n : Numbers) (b : Bool) → is_some (limits_broken n) ≡ b → (v : ℕ) × StatedFor noise n v
told_by noise n false e = let h = held n e in (noise h.0, λ w p. ap noise (within_same w h.0 (p ∙ sym h.1)))
told_by noise n true e = (0, λ w p. absurd (both_ways (is_some (limits_broken n)) (ap (λ (m : Numbers). is_some (limits_broken m)) (sym p) ∙ w.fit) e))

pub told_exists : (noise : Within → ℕ) (n : Numbers) → (v : ℕ) × StatedFor noise n v
told_exists noise n = told_by noise n (is_some (limits_broken n)) refl
