use Rattle.std.proofs.Common.{ℕ, ◌-◌, ◌%◌, arith}
use Rattle.rings.proofs.Mirrors.{mirror_suc, mirror_low, bit_shift}
use Rattle.rings.proofs.tables.+mirrored.Goals as goal

pub returns-else-s-eq0 : goal.returns-else-s-eq0
returns-else-s-eq0 t c =
    let s : ℕ = c.args.s in
    let b : ℕ = c.args.b in
    let shift = bit_shift (b % 2) (s - 1) (omega arith) (omega (arith, c.requires)) in
    let whole = mirror_suc s b (omega arith) in
    let low = mirror_low s b in
    record { same = omega (arith, c.mirrored.ensures.same); low = omega (arith, c.mirrored.ensures.same) }
