-- The laws of sweeps, collected.
use Rattle.algebra.specs.RotationLaws.{RotationLaws}
use Rattle.algebra.proofs.Sweeps.{carries_then, single_step, paired_step_lem, singles_sweep, pairs_sweep, swept}

pub rotation_laws : RotationLaws
rotation_laws = record {
  after = carries_then;
  single = single_step;
  double = paired_step_lem;
  single_sweeps = singles_sweep;
  paired_sweeps = pairs_sweep;
  swept = swept;
}
