use Rattle.std.proofs.Common.{◌≡◌, ◌*◌}
use Rattle.kernels.specs.Polynomials.{Below}
use Rattle.transform.specs.Stages.{runs}
use Rattle.transform.proofs.stages.evaluate.Given as goal

abbrev pub invariant-loop-k : goal.invariant-loop-k
invariant-loop-k l = (l.a ≡ runs l.ring (2 * l.k) l.initial.a) × Below l.ring.modulus l.a
