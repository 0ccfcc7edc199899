use Rattle.std.proofs.Common.{◌≡◌, ℕ, ◌+◌, ◌-◌, ◌%◌, ◌<◌, true, false, pos, ap, ◌∙◌, arith}
use Rattle.algebra.proofs.Cong.{cong_refl}
use Rattle.sweeps.proofs.Mixes.{mix_word, added_back}
use Rattle.sweeps.proofs.rotation.mix.Goals as goal
use Rattle.sweeps.proofs.rotation.mix.Goals.{in-Plus, in-Minus}

pub returns : goal.returns
returns c =
    let Q = c.args.modulus.value in
    let a = c.args.a in
    let m = c.args.moved in
    let s = c.args.still in
    let some : 0 < Q = omega (arith, c.requires.one) in
    let e : c.once-2.result ≡ ((a + c.match-sign.added) % Q + (Q - s)) % Q =
    c.once-2.ensures ∙ ap (λ (n : ℕ). (n + (Q - s)) % Q) c.once.ensures in
    e ∙ elim c.match-sign.branch [
      | in-Plus w ↦ rw (w.in-Plus.is, w.added-is) (mix_word Q a m s m false some c.requires.three (cong_refl Q (pos m)))
      | in-Minus w ↦ rw (w.in-Minus.is, w.added-is) (mix_word Q a m s (Q - m) true some c.requires.three (added_back Q m c.requires.two))
    ]
