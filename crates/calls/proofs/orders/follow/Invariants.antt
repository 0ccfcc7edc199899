use Rattle.std.proofs.Common.{◌≡◌, ◌*◌, ◌≤◌, length, drop}
use Rattle.std.specs.Iterator.Adapters.{enumerate_source, enumerate_count}
use Rattle.std.specs.Slice.Iter.{chunks_exact_rest, chunks_exact_size}
use Rattle.registers.specs.Marks.{state_of}
use Rattle.registers.specs.Registers.{numbers_of}
use Rattle.registers.specs.Steps.{gates_by}
use Rattle.calls.specs.Calls.{handed_lists, orders_of}
use Rattle.calls.proofs.Steps.{from}
use Rattle.calls.proofs.orders.follow.Given as goal

abbrev pub invariant-loop-i : goal.invariant-loop-i
invariant-loop-i g l =
    let i = length l.yielded in
    let left = enumerate_source l.i-iterator in
    record {
      can_next : (goal.iterator-loop-i g).can_next l.i-iterator;
      is_finite : (goal.iterator-loop-i g).is_finite l.i-iterator;
      count : enumerate_count l.i-iterator ≡ i;
      size : chunks_exact_size left ≡ 4;
      within : i * 4 ≤ length l.orders;
      rest : chunks_exact_rest left ≡ drop (i * 4) l.orders;
      value : orders_of (gates_by g.S.Sweep.defined g.K.Kernel.reads g.S.Sweep.count l.engine.set l.keys.start.now l.keys.selectors.now l.keys.rows.now) (numbers_of l.engine.set)
          (g.S.Sweep.count l.engine.set.within) (handed_lists l.keys.start.now l.keys.selectors.now l.keys.rows.now l.initial.small l.initial.work l.initial.scratch)
          (state_of l.initial.file l.initial.regs) l.orders
          ≡ from (gates_by g.S.Sweep.defined g.K.Kernel.reads g.S.Sweep.count l.engine.set l.keys.start.now l.keys.selectors.now l.keys.rows.now) (numbers_of l.engine.set)
          (g.S.Sweep.count l.engine.set.within) (handed_lists l.keys.start.now l.keys.selectors.now l.keys.rows.now l.initial.small l.initial.work l.initial.scratch)
          i (state_of l.file l.regs) (drop (i * 4) l.orders);
    }
