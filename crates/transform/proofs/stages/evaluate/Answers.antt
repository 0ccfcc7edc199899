use Rattle.std.proofs.Common.{◌≡◌, ℕ, ◌+◌, ◌-◌, ◌*◌, ap, ◌∙◌, arith}
use Rattle.transform.specs.Meaning.{runs_values}
use Rattle.transform.specs.Stages.{runs}
use Rattle.transform.specs.Steps.{runs_none, runs_more}
use Rattle.transform.proofs.stages.evaluate.Goals as goal

pub loop-k-init : goal.loop-k-init
loop-k-init c = (runs_none c.args.ring.now _ _ (omega arith), c.requires.from.1)

pub loop-k-preserved : goal.loop-k-preserved
loop-k-preserved c =
    let r = c.args.ring.now in
    let k : ℕ = c.loop-k.k in
    let f = c.args.a.now in
    let half = runs_more r (2 * k) (2 * k + 1) f c.loop-k.a c.forth.new.y (omega arith) c.loop-k.invariant.0 c.forth.ensures.same in (
      runs_more r (2 * k + 1) (2 * (k + 1)) f c.forth.new.y c.forth-in-loop-k.new.y (omega arith) half c.forth-in-loop-k.ensures.same,
      c.forth-in-loop-k.ensures.below,
    )

pub returns-then-log-eq1 : goal.returns-then-log-eq1
returns-then-log-eq1 c =
    let r = c.args.ring.now in
    let f = c.args.a.now in
    let k : 2 * c.loop-k.k ≡ r.log - 1 = omega (arith, c.loop-k-test.false, c.loop-k.auto.k-end) in
    let m : r.log ≡ r.log - 1 + 1 = omega (arith, r.size.2) in
    let before = c.loop-k.invariant.0 ∙ ap (λ i. runs r i f) k in
    c.copy_from_slice.ensures.after
    ∙ runs_more r (r.log - 1) r.log f c.loop-k.a c.forth-then-log-eq1.new.y m before c.forth-then-log-eq1.ensures.same
    ∙ runs_values r f c.requires.from

pub returns-else-log-eq1 : goal.returns-else-log-eq1
returns-else-log-eq1 c =
    let r = c.args.ring.now in
    let f = c.args.a.now in
    let k : 2 * c.loop-k.k ≡ r.log = omega (arith, c.loop-k-test.false, c.loop-k.auto.k-end) in
    c.loop-k.invariant.0 ∙ ap (λ i. runs r i f) k ∙ runs_values r f c.requires.from
