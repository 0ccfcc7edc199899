use Rattle.std.proofs.Common.{not, length, take, drop, ◌-◌, arith}
use Rattle.sweeps.specs.Mixing.{is_minus, MixedEach}
use Rattle.sweeps.proofs.Mixes.{mix_whole}
use Rattle.sweeps.proofs.rotation.mix_all.Goals as goal

pub returns : goal.returns
returns c =
    let Q = c.args.modulus.value in
    let j = c.args.j in
    let sum = c.args.sum.now in
    let acc = c.args.acc.now in
    let back = is_minus c.args.sign in
    let low = c.mix_each.new.acc in
    let high = c.mix_each-2.new.acc in
    let first : MixedEach Q (not back) (drop (length sum - j) sum) (take j sum) (take j acc) low =
    rw (c.other.ensures, c.split_at.ensures.back, c.split_at-2.ensures.front, c.split_at_mut-low.ensures.front) at c.mix_each.ensures in
    let second : MixedEach Q back (take (length sum - j) sum) (drop j sum) (drop j acc) high =
    rw (c.split_at.ensures.front, c.split_at-2.ensures.back, c.split_at_mut-low.ensures.back) at c.mix_each-2.ensures in
    mix_whole Q j back sum acc low high c.requires.long c.requires.place
    (omega (arith, c.split_at_mut-low.ensures.front_len)) (omega (arith, c.split_at_mut-low.ensures.back_len)) first second
