use Rattle.sweeps.specs.Steps.{single_step}
use Rattle.sweeps.proofs.single.SingleStep.step.Goals as goal

pub returns : goal.returns
unfolding single_step
returns g c =
    record {
      value = λ total ends. c.add_taken.ensures.value c.args.acc.now total ends c.spread.ensures;
      poly = c.add_taken.ensures.poly;
    }
