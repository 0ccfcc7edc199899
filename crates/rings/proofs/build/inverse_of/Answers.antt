use Rattle.std.proofs.Common.{◌≡◌, ℕ, ◌+◌, ◌/◌, ◌%◌, ◌^◌, ◌<◌, get_or, mod-lt, arith}
use Rattle.rings.proofs.Built.{inverse_is}
use Rattle.rings.proofs.build.inverse_of.Goals as goal

pub returns : goal.returns
returns c =
    let n : ℕ = c.args.log in
    let Q : ℕ = c.args.modulus in
    let x : ℕ = get_or c.fill_powers.new.out n 0 in
    let e : x ≡ (Q / 2 + 1) ^ n % Q = c.fill_powers.ensures n (omega (arith, c.requires.few)) in
    let q0 : 0 < Q = omega (arith, c.requires.more) in
    record {
      low = omega (arith, e, mod-lt ((Q / 2 + 1) ^ n) q0);
      one = inverse_is Q n x c.requires.odd c.requires.more e;
    }
