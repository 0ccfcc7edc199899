use Rattle.std.proofs.Common.{◌<◌, ◌≢◌, length, refl, arith, get_or-set_other, get_or-set_same, below_more}
use Rattle.rings.proofs.Mod.{power_next}
use Rattle.rings.proofs.tables.fill_powers.Goals as goal

pub loop-place-preserved : goal.loop-place-preserved
loop-place-preserved c = record {
  power = power_next c.loop-place.power c.args.base c.loop-place.place-index c.args.modulus _ c.loop-place.invariant.power refl;
  written =
      below_more _ _
      (λ k h. let ne : k ≢ c.loop-place.place-index = omega arith in rw get_or-set_other (c.loop-place.invariant.written k h))
      (let lt : c.loop-place.place-index < length c.loop-place.out = omega arith in rw get_or-set_same c.loop-place.invariant.power);
}
