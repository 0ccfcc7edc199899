use Rattle.std.proofs.Common.{◌^◌, get_or, ℕ, ℤ, sym, ap, ◌∙◌, arith}
use Rattle.algebra.specs.Digits.{digit}
use Rattle.algebra.specs.Keys.{split}
use Rattle.sweeps.specs.Held.{under}
use Rattle.sweeps.proofs.Filled.{words_each}
use Rattle.sweeps.proofs.Calls.{reads_turned}
use Rattle.sweeps.proofs.products.split_rows.Goals as goal

pub returns : goal.returns
returns g c i h =
    let r = c.args.ring.now in
    let t = c.args.gadget.now in
    reads_turned g.met.K.Kernel.forms r (λ k. digit (2 ^ t.width) t.digits (under (get_or c.lower.new.rest k 0)) i) _ (c.fill_rows.ensures i h)
    ∙ words_each r.degree r.modulus _ (split r.modulus (2 ^ t.shift) (2 ^ t.width) t.digits c.args.acc.now i)
    (λ k l. ap (λ (z : ℤ). digit (2 ^ t.width) t.digits z i) (c.lower.ensures.value k (omega (arith, c.requires.acc.0)))
    ∙ ap (λ (n : ℕ). split n (2 ^ t.shift) (2 ^ t.width) t.digits c.args.acc.now i k) (sym c.requires.same))
