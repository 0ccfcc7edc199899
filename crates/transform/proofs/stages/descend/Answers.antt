use Rattle.std.proofs.Common.{◌≡◌, ℕ, ◌+◌, ◌-◌, ◌*◌, ap, ◌∙◌, arith}
use Rattle.transform.specs.Stages.{unruns}
use Rattle.transform.specs.Steps.{unruns_none, unruns_more}
use Rattle.transform.proofs.stages.descend.Goals as goal

pub loop-k-init : goal.loop-k-init
loop-k-init c = (unruns_none c.args.ring.now _ _ (omega arith), c.requires.from.1)

pub loop-k-preserved : goal.loop-k-preserved
loop-k-preserved c =
    let r = c.args.ring.now in
    let k : ℕ = c.loop-k.k in
    let y = c.args.a.now in
    let half =
    unruns_more r (2 * k) (2 * k + 1) (r.log - 1 - 2 * k) y c.loop-k.a c.aback.new.x (omega arith) (omega arith)
    c.loop-k.invariant.0 c.aback.ensures.same in (
      unruns_more r (2 * k + 1) (2 * (k + 1)) (r.log - 2 - 2 * k) y c.aback.new.x c.aback-in-loop-k.new.x (omega arith) (omega arith)
          half c.aback-in-loop-k.ensures.same,
      c.aback-in-loop-k.ensures.below,
    )

pub returns-then-log-eq1 : goal.returns-then-log-eq1
returns-then-log-eq1 c =
    let r = c.args.ring.now in
    let y = c.args.a.now in
    let k : 2 * c.loop-k.k ≡ r.log - 1 = omega (arith, c.loop-k-test.false, c.loop-k.auto.k-end) in
    let m : r.log ≡ r.log - 1 + 1 = omega (arith, r.size.2) in
    let before = c.loop-k.invariant.0 ∙ ap (λ i. unruns r i y) k in
    c.copy_from_slice.ensures.after
    ∙ unruns_more r (r.log - 1) r.log 0 y c.loop-k.a c.aback-then-log-eq1.new.x m (omega arith) before c.aback-then-log-eq1.ensures.same
