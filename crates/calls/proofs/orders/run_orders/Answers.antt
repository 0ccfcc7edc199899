use Rattle.std.proofs.Common.{◌≡◌, ℕ, List, Some, None, Option, sym, ap, ◌∙◌, rules}
use Rattle.faults.specs.declared.fault.Fault.{Fault}
use Rattle.faults.specs.Least.{told}
use Rattle.set.specs.declared.numbers.Numbers.{Numbers}
use Rattle.set.specs.declared.checked.Set.{Set}
use Rattle.registers.specs.declared.lists.Lists.{Lists}
use Rattle.registers.specs.Marks.{State, state_of}
use Rattle.registers.specs.Registers.{numbers_of}
use Rattle.registers.specs.Steps.{Gates, gates_by}
use Rattle.calls.specs.Orders.{ending}
use Rattle.calls.specs.Plain.{unless_refused}
use Rattle.calls.specs.Calls.{handed_lists, refuse_orders, orders_of}
use Rattle.calls.proofs.Steps.{orders_calls}
use Rattle.calls.proofs.Turns.{ok_none, err_some}
use Rattle.calls.proofs.orders.run_orders.Goals as goal

pub returns-in-Err : goal.returns-in-Err
returns-in-Err g c =
    let gates : Gates = gates_by g.S.Sweep.defined g.K.Kernel.reads g.S.Sweep.count c.args.engine.now.set c.args.keys.start.now c.args.keys.selectors.now c.args.keys.rows.now in
    let m : Numbers = numbers_of c.args.engine.now.set in
    let count : ℕ = g.S.Sweep.count c.args.engine.now.set.within in
    let lists : Lists = handed_lists c.args.keys.start.now c.args.keys.selectors.now c.args.keys.rows.now c.args.small.now c.args.work.now c.args.scratch.now in
    let s : State = state_of c.args.file.now c.args.regs.now in
    let xs : List ℕ = c.args.orders.now in
    let r : Some c.in-Err.fault ≡ refuse_orders m count lists s =
    sym (err_some (refuse_orders m count lists s) c.in-Err.fault
    (c.in-Err.ensures ∙ ap (λ (v : Set). told (refuse_orders (numbers_of v) (g.S.Sweep.count v.within) lists s)) c.set.ensures)) in
    record {
      end = ap (λ (v : Option Fault). unless_refused v (ending s 0 v) (orders_of gates m count lists s xs)) r;
      calls = orders_calls gates m count lists xs s;
      small = search rules;
      work = search rules;
      scratch = search rules;
    }

pub returns : goal.returns
returns g c =
    let gates : Gates = gates_by g.S.Sweep.defined g.K.Kernel.reads g.S.Sweep.count c.args.engine.now.set c.args.keys.start.now c.args.keys.selectors.now c.args.keys.rows.now in
    let m : Numbers = numbers_of c.args.engine.now.set in
    let count : ℕ = g.S.Sweep.count c.args.engine.now.set.within in
    let lists : Lists = handed_lists c.args.keys.start.now c.args.keys.selectors.now c.args.keys.rows.now c.args.small.now c.args.work.now c.args.scratch.now in
    let s : State = state_of c.args.file.now c.args.regs.now in
    let xs : List ℕ = c.args.orders.now in
    let r : None ≡ refuse_orders m count lists s =
    sym (ok_none (refuse_orders m count lists s) c.in_default.field-0
    (c.in_default.ensures ∙ ap (λ (v : Set). told (refuse_orders (numbers_of v) (g.S.Sweep.count v.within) lists s)) c.set.ensures)) in
    record {
      end = c.follow.ensures ∙ ap (λ (v : Option Fault). unless_refused v (ending s 0 v) (orders_of gates m count lists s xs)) r;
      calls = orders_calls gates m count lists xs s;
      small = search rules;
      work = search rules;
      scratch = search rules;
    }
