-- One set with secrets and keys that fit, by computing.
use Rattle.std.proofs.Common.{◌^◌, pos, ◌*ℤ◌, refl, lit<, lit≤}
use Rattle.algebra.proofs.Cong.{same}
use Rattle.algebra.proofs.Poly.{one-mul}
use Rattle.algebra.proofs.Near.{near_cong}
use Rattle.algebra.proofs.Digits.{covers_powers}
use Rattle.algebra.proofs.Phases.{phase_last}
use Rattle.algebra.specs.Polys.{one, scale, weight}
use Rattle.algebra.specs.Keys.{gadget}
use Rattle.algebra.specs.Example.{ExampleFits, example_secret}

-- keys without noise
pub example_fits : ExampleFits
unfolding weight
example_fits = record {
  length_some = lit< tt;
  circle = refl;
  sixteenth = (lit< tt, refl);
  moduli = (lit< tt, lit< tt);
  covers = (covers_powers 2013265921 11 3 5 (lit< tt) (lit≤ tt), covers_powers (2 ^ 20) 0 4 4 (lit< tt) (lit≤ tt));
  light = (lit≤ tt, lit≤ tt);
  starts = λ i b k l. near_cong 2013265921 1 (same 2013265921 _ _ (one-mul 64 (scale (gadget 2048 16 i) one) k l));
  switches = λ j a i b. near_cong (2 ^ 20) 1 (same (2 ^ 20) _ _ (phase_last 8 (λ j. pos (example_secret j)) (one j *ℤ pos (32 ^ i))));
  closes = lit≤ tt;
}
