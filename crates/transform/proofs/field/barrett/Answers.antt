use Rattle.std.proofs.Common.{◌≡◌, ◌%◌, ◌<◌, arith}
use Rattle.transform.proofs.Barrett.{guessed_in, remains}
use Rattle.transform.proofs.field.barrett.Goals as goal

pub overflow_cast-top-2 : goal.overflow_cast-top-2
overflow_cast-top-2 c = omega (arith, (guessed_in c.args.ring.now c.args.t c.requires).top)

pub overflow_cast-guess-4 : goal.overflow_cast-guess-4
overflow_cast-guess-4 c = omega (arith, (guessed_in c.args.ring.now c.args.t c.requires).small)

pub overflow_sub-rest : goal.overflow_sub-rest
overflow_sub-rest c = (guessed_in c.args.ring.now c.args.t c.requires).low

all : (c : goal.After-reduce_wide-2)
    → (c.reduce_wide-2.result < c.args.ring.now.modulus) × (c.reduce_wide-2.result ≡ c.args.t % c.args.ring.now.modulus)
all c =
    let r = c.args.ring.now in
    remains c.args.t r.modulus r.mu r.bits c.reduce_wide.result c.reduce_wide-2.result
    (guessed_in c.args.ring.now c.args.t c.requires)
    (record { low = c.reduce_wide.ensures.low; high = c.reduce_wide.ensures.high })
    (record { low = c.reduce_wide-2.ensures.low; high = c.reduce_wide-2.ensures.high })

pub overflow_cast-result : goal.overflow_cast-result
overflow_cast-result c = omega (arith, (all c).0, c.args.ring.now.limits.2)

pub returns : goal.returns
returns c = (all c).1
