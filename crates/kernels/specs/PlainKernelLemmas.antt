use Rattle.std.specs.Prelude.{◌<◌}
use Rattle.std.proofs.Common.{arith}
use Rattle.rings.specs.declared.ring.Ring.{Ring}

pub some : (r : Ring) → 0 < r.modulus
some r = omega (arith, r.limits.1)
