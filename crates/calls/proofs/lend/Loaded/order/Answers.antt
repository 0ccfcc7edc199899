use Rattle.std.proofs.Common.{ℕ, Option}
use Rattle.faults.specs.declared.fault.Fault.{Fault}
use Rattle.set.specs.declared.numbers.Numbers.{Numbers}
use Rattle.registers.specs.declared.lists.Lists.{Lists}
use Rattle.registers.specs.Marks.{State, state_of}
use Rattle.registers.specs.Registers.{numbers_of}
use Rattle.registers.specs.Steps.{Gates, gates_by}
use Rattle.calls.specs.Orders.{Ending}
use Rattle.calls.specs.Calls.{lent_lists, refuse_orders, orders_of}
use Rattle.calls.proofs.Lending.{ending_answer, ending_state}
use Rattle.calls.proofs.lend.Loaded.order.Goals as goal

pub returns : goal.returns
returns g c =
    let m : Numbers = numbers_of c.args.self.now.engine.now.set in
    let count : ℕ = g.S.Sweep.count c.args.self.now.engine.now.set.within in
    let s : State = state_of c.args.file.now c.args.regs.now in
    let gates : Gates = gates_by g.S.Sweep.defined g.K.Kernel.reads g.S.Sweep.count c.args.self.now.engine.now.set c.args.self.now.keys.start.now c.args.self.now.keys.selectors.now c.args.self.now.keys.rows.now in
    let lists : Lists = lent_lists m count c.args.lent in
    let r : Option Fault = refuse_orders m count lists s in
    let e : Ending State = orders_of gates m count lists s c.args.orders.now in
    let t : State = state_of c.run_orders.new.file c.run_orders.new.regs in
    record {
      answer = ending_answer r s t e c.run_orders.result.orders c.run_orders.result.stop c.run_orders.ensures;
      state = ending_state r s t e c.run_orders.result.orders c.run_orders.result.stop c.run_orders.ensures;
    }
