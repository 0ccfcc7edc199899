use Rattle.std.proofs.Common.{◌≡◌, ℕ, ◌+◌, ◌*◌, ◌/◌, length, ap, ◌∙◌, arith, add-mul}
use Rattle.std.proofs.lemmas.Nat.{div-mul-add}
use Rattle.sweeps.proofs.Calls.{words_are}
use Rattle.sweeps.proofs.Takes.{collected}
use Rattle.sweeps.proofs.external.Rows.collect.Goals as goal

pub gather-requires-clause-keys : goal.gather-requires-clause-keys
gather-requires-clause-keys g c =
    let s = c.args.self.now.set.now in
    let n = s.within.numbers in
    let j = c.args.j in
    let e : (j * c.digits.result) * c.ring.result.now.degree ≡ (j * n.digits) * n.degree =
    ap (λ (x : ℕ). (j * x) * c.ring.result.now.degree) c.digits.ensures.value
    ∙ ap (λ (x : ℕ). (j * n.digits) * x) (ap (λ r. r.degree) c.ring.ensures ∙ s.same.0) in
    omega (arith, e, c.args.self.now.long, add-mul (j * n.digits) n.digits n.degree, c.requires.keys)

pub returns : goal.returns
returns g c =
    let s = c.args.self.now.set.now in
    let n = s.within.numbers in
    let whole : length c.args.self.now.digits.now / c.ring.result.now.degree ≡ n.digits =
    ap (λ (x : ℕ). x / c.ring.result.now.degree) {x = length c.args.self.now.digits.now} {y = n.digits * n.degree + 0} (omega (arith, c.args.self.now.long))
    ∙ ap (λ (x : ℕ). (n.digits * n.degree + 0) / x) (ap (λ r. r.degree) c.ring.ensures ∙ s.same.0)
    ∙ div-mul-add n.digits n.degree 0 (omega (arith, s.within.lengths)) in
    record {
      value = λ acc total ends spread.
          c.gather.ensures
          ∙ collected g.K.Kernel.reads s c.ring.result.now (length c.args.self.now.digits.now / c.ring.result.now.degree) (c.args.j * c.digits.result)
          c.args.self.now.digits.now c.args.self.now.keys.now acc c.args.j total c.ring.ensures whole
          (ap (λ (x : ℕ). c.args.j * x) c.digits.ensures.value) ends spread;
      poly = words_are s.ring c.ring.result.now _ c.gather.new.sum c.ring.ensures c.gather.ensures;
    }
