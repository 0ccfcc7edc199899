use Rattle.std.proofs.Common.{◌≡◌, ℕ, ◌+◌, ◌*◌, ◌/◌, ◌<◌, List, [], ◌∷◌, ◌++◌, length, get_or, drop, Some, None, sym, ap, ◌∙◌, arith, rules}
use Rattle.std.proofs.lemmas.List.{length-append, length-drop}
use Rattle.faults.specs.declared.fault.Fault.TheVariants.{Order}
use Rattle.set.specs.declared.numbers.Numbers.{Numbers}
use Rattle.sweeps.proofs.Walks.{part_is, part_left, part_within}
use Rattle.registers.specs.declared.lists.Lists.{Lists}
use Rattle.registers.specs.Marks.{State, state_of}
use Rattle.registers.specs.Registers.{numbers_of}
use Rattle.registers.specs.Steps.{Gates, gates_by}
use Rattle.calls.specs.Orders.{ending}
use Rattle.calls.specs.Calls.{handed_lists}
use Rattle.calls.proofs.Steps.{order_at, from, orders_from, unknown-at, broken-off, all-ran}
use Rattle.calls.proofs.Turns.{lists_stay, turn_on, turn_off}
use Rattle.calls.proofs.orders.follow.Goals as goal

pub loop-i-init : goal.loop-i-init
loop-i-init g c =
    let gates : Gates = gates_by g.S.Sweep.defined g.K.Kernel.reads g.S.Sweep.count c.args.engine.now.set c.args.keys.start.now c.args.keys.selectors.now c.args.keys.rows.now in
    let m : Numbers = numbers_of c.args.engine.now.set in
    let count : ℕ = g.S.Sweep.count c.args.engine.now.set.within in
    let lists : Lists = handed_lists c.args.keys.start.now c.args.keys.selectors.now c.args.keys.rows.now c.args.small.now c.args.work.now c.args.scratch.now in
    record {
      can_next = search rules;
      is_finite = search rules;
      count = search rules;
      size = search rules;
      within = search rules;
      rest = search rules;
      value = orders_from gates m count lists c.args.orders.now (state_of c.args.file.now c.args.regs.now);
    }

pub returns-in_default : goal.returns-in_default
returns-in_default g c =
    let gates : Gates = gates_by g.S.Sweep.defined g.K.Kernel.reads g.S.Sweep.count c.args.engine.now.set c.args.keys.start.now c.args.keys.selectors.now c.args.keys.rows.now in
    let m : Numbers = numbers_of c.args.engine.now.set in
    let count : ℕ = g.S.Sweep.count c.args.engine.now.set.within in
    let lists : Lists = handed_lists c.args.keys.start.now c.args.keys.selectors.now c.args.keys.rows.now c.args.small.now c.args.work.now c.args.scratch.now in
    let v = c.loop-i.invariant in
    let s : State = state_of c.loop-i.file c.loop-i.regs in
    let k : ℕ = length c.loop-i.yielded in
    let all : List ℕ = c.args.orders.now in
    let xs : List ℕ = drop (length c.loop-i.yielded * 4) c.args.orders.now in
    let h = c.in-Some.ensures.steps in
    let size = h.0.1.1 ∙ v.size in
    let chunk : List ℕ = c.in-Some.order.now in
    let rest : List ℕ = drop ((length c.loop-i.yielded + 1) * 4) c.args.orders.now in
    let here : c.in-Some.i ≡ k = h.1 ∙ v.count in
    let few : 0 < 4 = omega arith in
    let ends = part_within 4 k all _ _ _ few v.rest h.0.1.0 size in
    let is = order_at all chunk k (part_is 4 k all _ _ _ few v.rest h.0.1.0 size) ends in
    ap (λ (i : ℕ). ending s i (Some (Order i))) here
    ∙ sym (unknown-at gates m count lists k s xs (get_or chunk 0 0) (get_or chunk 1 0) (get_or chunk 2 0) (get_or chunk 3 0) rest is c.in_default.ensures) ∙ sym v.value

pub returns-in-Err : goal.returns-in-Err
returns-in-Err g c =
    let gates : Gates = gates_by g.S.Sweep.defined g.K.Kernel.reads g.S.Sweep.count c.args.engine.now.set c.args.keys.start.now c.args.keys.selectors.now c.args.keys.rows.now in
    let m : Numbers = numbers_of c.args.engine.now.set in
    let count : ℕ = g.S.Sweep.count c.args.engine.now.set.within in
    let lists : Lists = handed_lists c.args.keys.start.now c.args.keys.selectors.now c.args.keys.rows.now c.args.small.now c.args.work.now c.args.scratch.now in
    let v = c.loop-i.invariant in
    let s : State = state_of c.loop-i.file c.loop-i.regs in
    let k : ℕ = length c.loop-i.yielded in
    let all : List ℕ = c.args.orders.now in
    let xs : List ℕ = drop (length c.loop-i.yielded * 4) c.args.orders.now in
    let h = c.in-Some.ensures.steps in
    let size = h.0.1.1 ∙ v.size in
    let chunk : List ℕ = c.in-Some.order.now in
    let rest : List ℕ = drop ((length c.loop-i.yielded + 1) * 4) c.args.orders.now in
    let here : c.in-Some.i ≡ k = h.1 ∙ v.count in
    let few : 0 < 4 = omega arith in
    let ends = part_within 4 k all _ _ _ few v.rest h.0.1.0 size in
    let is = order_at all chunk k (part_is 4 k all _ _ _ few v.rest h.0.1.0 size) ends in
    let same : Lists = handed_lists c.args.keys.start.now c.args.keys.selectors.now c.args.keys.rows.now c.loop-i.small c.loop-i.work c.loop-i.scratch in
    let e : same ≡ lists =
    lists_stay c.args.keys.start.now c.args.keys.selectors.now c.args.keys.rows.now c.loop-i.small c.loop-i.work c.loop-i.scratch
    c.args.small.now c.args.work.now c.args.scratch.now (omega arith) (omega arith) (omega arith) in
    let named = c.in-Some-order_of.ensures in
    let after : State = state_of c.act.new.file c.act.new.regs in
    ap (λ (i : ℕ). ending after i (Some c.in-Err.fault)) here
    ∙ turn_off gates m count lists same e _ k s after xs rest (get_or chunk 0 0) (get_or chunk 1 0) (get_or chunk 2 0) (get_or chunk 3 0) c.in-Some-order_of.op is named
    c.act.ensures.state v.value c.in-Err.fault c.in-Err.ensures.answer

pub loop-i-preserved : goal.loop-i-preserved
loop-i-preserved g c =
    let gates : Gates = gates_by g.S.Sweep.defined g.K.Kernel.reads g.S.Sweep.count c.args.engine.now.set c.args.keys.start.now c.args.keys.selectors.now c.args.keys.rows.now in
    let m : Numbers = numbers_of c.args.engine.now.set in
    let count : ℕ = g.S.Sweep.count c.args.engine.now.set.within in
    let lists : Lists = handed_lists c.args.keys.start.now c.args.keys.selectors.now c.args.keys.rows.now c.args.small.now c.args.work.now c.args.scratch.now in
    let v = c.loop-i.invariant in
    let s : State = state_of c.loop-i.file c.loop-i.regs in
    let k : ℕ = length c.loop-i.yielded in
    let all : List ℕ = c.args.orders.now in
    let xs : List ℕ = drop (length c.loop-i.yielded * 4) c.args.orders.now in
    let h = c.in-Some.ensures.steps in
    let size = h.0.1.1 ∙ v.size in
    let chunk : List ℕ = c.in-Some.order.now in
    let rest : List ℕ = drop ((length c.loop-i.yielded + 1) * 4) c.args.orders.now in
    let here : c.in-Some.i ≡ k = h.1 ∙ v.count in
    let few : 0 < 4 = omega arith in
    let ends = part_within 4 k all _ _ _ few v.rest h.0.1.0 size in
    let is = order_at all chunk k (part_is 4 k all _ _ _ few v.rest h.0.1.0 size) ends in
    let same : Lists = handed_lists c.args.keys.start.now c.args.keys.selectors.now c.args.keys.rows.now c.loop-i.small c.loop-i.work c.loop-i.scratch in
    let e : same ≡ lists =
    lists_stay c.args.keys.start.now c.args.keys.selectors.now c.args.keys.rows.now c.loop-i.small c.loop-i.work c.loop-i.scratch
    c.args.small.now c.args.work.now c.args.scratch.now (omega arith) (omega arith) (omega arith) in
    let named = c.in-Some-order_of.ensures in
    let after : State = state_of c.act.new.file c.act.new.regs in
    let more : k + 1 ≡ length (c.loop-i.yielded ++ ((c.in-Some.i, c.in-Some.order) ∷ [])) =
    sym (length-append c.loop-i.yielded ((c.in-Some.i, c.in-Some.order) ∷ [])) in
    record {
      can_next = search rules;
      is_finite = search rules;
      count = h.2 ∙ ap (λ (x : ℕ). x + 1) v.count ∙ more;
      size = h.0.0 ∙ v.size;
      within = omega (arith, ends, ap (λ (x : ℕ). x * 4) more);
      rest = part_left 4 k all _ _ _ few v.rest h.0.1.0 size ∙ ap (λ (x : ℕ). drop (x * 4) all) more;
      value = turn_on gates m count lists same e _ k s after xs rest (get_or chunk 0 0) (get_or chunk 1 0) (get_or chunk 2 0) (get_or chunk 3 0) c.in-Some-order_of.op is named
          c.act.ensures.state v.value c.in_default-act.field-0 c.in_default-act.ensures.answer
          ∙ ap (λ (x : ℕ). from gates m count lists x after (drop (x * 4) all)) more;
    }

pub returns-then-orders-ne0 : goal.returns-then-orders-ne0
returns-then-orders-ne0 g c =
    let gates : Gates = gates_by g.S.Sweep.defined g.K.Kernel.reads g.S.Sweep.count c.args.engine.now.set c.args.keys.start.now c.args.keys.selectors.now c.args.keys.rows.now in
    let m : Numbers = numbers_of c.args.engine.now.set in
    let count : ℕ = g.S.Sweep.count c.args.engine.now.set.within in
    let lists : Lists = handed_lists c.args.keys.start.now c.args.keys.selectors.now c.args.keys.rows.now c.args.small.now c.args.work.now c.args.scratch.now in
    let v = c.loop-i.invariant in
    let s : State = state_of c.loop-i.file c.loop-i.regs in
    let k : ℕ = length c.loop-i.yielded in
    let all : List ℕ = c.args.orders.now in
    let xs : List ℕ = drop (length c.loop-i.yielded * 4) c.args.orders.now in
    let h = c.in-None.ensures.steps in
    let short : length xs < 4 = omega (arith, h.0.1.0, v.size, ap length v.rest) in
    let long = length-drop (k * 4) all in
    let ran : length all / 4 ≡ k = omega (arith, short, long, v.within) in
    let some : 0 < length xs = omega (arith, short, long, v.within) in
    ap (λ (i : ℕ). ending s i (Some (Order i))) ran ∙ sym (broken-off gates m count lists k s xs some short) ∙ sym v.value

pub returns : goal.returns
returns g c =
    let gates : Gates = gates_by g.S.Sweep.defined g.K.Kernel.reads g.S.Sweep.count c.args.engine.now.set c.args.keys.start.now c.args.keys.selectors.now c.args.keys.rows.now in
    let m : Numbers = numbers_of c.args.engine.now.set in
    let count : ℕ = g.S.Sweep.count c.args.engine.now.set.within in
    let lists : Lists = handed_lists c.args.keys.start.now c.args.keys.selectors.now c.args.keys.rows.now c.args.small.now c.args.work.now c.args.scratch.now in
    let v = c.loop-i.invariant in
    let s : State = state_of c.loop-i.file c.loop-i.regs in
    let k : ℕ = length c.loop-i.yielded in
    let all : List ℕ = c.args.orders.now in
    let xs : List ℕ = drop (length c.loop-i.yielded * 4) c.args.orders.now in
    let h = c.in-None.ensures.steps in
    let short : length xs < 4 = omega (arith, h.0.1.0, v.size, ap length v.rest) in
    let long = length-drop (k * 4) all in
    let ran : length all / 4 ≡ k = omega (arith, short, long, v.within) in
    let none : length xs ≡ 0 = omega (arith, short, long, v.within) in
    ap (λ (i : ℕ). ending s i None) ran ∙ sym (all-ran gates m count lists k s xs none) ∙ sym v.value
