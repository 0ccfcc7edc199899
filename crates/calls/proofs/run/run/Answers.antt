use Rattle.std.proofs.Common.{ℕ, ◌*◌, List, map, length, rules}
use Rattle.std.proofs.lemmas.Result.{MatchResult-weaker}
use Rattle.set.specs.declared.numbers.Numbers.{Numbers}
use Rattle.gate.specs.Keys.{start_of, selectors_of}
use Rattle.gate.proofs.KeyRows.{read_long, read_polys}
use Rattle.registers.specs.declared.lists.Lists.{Lists}
use Rattle.registers.specs.Registers.{numbers_of}
use Rattle.calls.specs.Calls.{asked, handed_lists}
use Rattle.calls.specs.Runs.{outcome_of}
use Rattle.calls.proofs.Refused.{run_least}
use Rattle.calls.proofs.Whole.{promised}
use Rattle.calls.proofs.run.run.Goals as goal

pub returns : goal.returns
returns g c =
    let set = c.args.engine.now.set in
    let m : Numbers = numbers_of c.args.engine.now.set in
    let count = g.S.Sweep.count in
    let many : ℕ = g.S.Sweep.count c.args.engine.now.set.within * m.digits in
    let lists : Lists = handed_lists c.args.keys.start.now c.args.keys.selectors.now c.args.keys.rows.now c.args.small.now c.args.work.now c.args.scratch.now in
    let start : List (List ℕ) = start_of g.K.Kernel.reads set c.args.keys.start.now in
    let keys : List (List ℕ) = selectors_of g.K.Kernel.reads count set c.args.keys.selectors.now in
    record {
      answer = c.begin.ensures.answer;
      outcome = MatchResult-weaker c.begin.result c.begin.ensures.outcome
          (λ file e. promised g.S.Sweep.defined g.S.Sweep.noise count g.S.Sweep.message g.met.S.Sweep.means set start keys c.args.keys.rows.now
          (read_long (g.K.Kernel.reads c.args.engine.now.set.ring) m.degree many c.args.keys.selectors.now)
          (read_polys g.K.Kernel.reads g.K.Kernel.form g.met.K.Kernel.forms set many c.args.keys.selectors.now)
          c.args.count (map asked c.args.calls.now) (outcome_of file c.begin.new.regs c.begin.new.got c.begin.new.reads) e)
          (λ f h. h);
      least = run_least m (g.S.Sweep.count c.args.engine.now.set.within) c.args.count (length c.args.calls.now) (length c.args.got.now) (length c.args.reads.now) (length c.args.regs.now) lists;
      small = search rules;
      work = search rules;
      scratch = search rules;
    }
