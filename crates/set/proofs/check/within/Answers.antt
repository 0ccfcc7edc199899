use Rattle.std.proofs.Common.{◌≡◌, false, is_some, Option, sym, ap, arith}
use Rattle.faults.specs.declared.fault.Fault.{Fault}
use Rattle.set.specs.Limits.{limits_broken}
use Rattle.set.proofs.Limits.{limits_of}
use Rattle.set.proofs.check.within.Goals as goal

pub invariant_of-result : goal.invariant_of-result
invariant_of-result c =
    let n = c.args.numbers in
    let fit : is_some (limits_broken n) ≡ false = ap (λ (o : Option Fault). is_some o) (sym c.in_ok-check_limits.ensures) in
    let l = limits_of n fit in
    let d = l.degree_ok.1 in
    let q = l.small_ok.1 in
    let s = l.switch_ok.1 in
    let b = l.bound_ok in
    record {
      fit = fit;
      lengths = (d.0, d.1, l.dimension_ok.1.0, l.dimension_ok.1.1);
      moduli = (q.0, q.1, l.modulus_ok.1.0, l.modulus_ok.1.1);
      split = (l.dropped_ok.1.1, l.base_ok.1.1, l.digits_ok.0, l.digits_ok.1, l.noise_ok.1);
      secrets = (l.weight_ok.1, l.ones_ok.1, l.dimension_ok.0);
      switching = (omega (arith, q, s), s.1, l.radix_ok.1.1, l.places_ok.0, l.places_ok.1);
      last = (l.jitter_ok.1, omega (arith, b, q, d));
    }
