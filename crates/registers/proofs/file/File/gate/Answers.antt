use Rattle.std.proofs.Common.{ℕ, ◌*◌, ◌<◌, sym, refl, ap, ◌∙◌, subst, inl, inr}
use Rattle.faults.specs.Least.{told}
use Rattle.set.specs.declared.checked.Set.{Set}
use Rattle.registers.specs.declared.lists.Lists.{Lists}
use Rattle.registers.specs.Marks.{state_of}
use Rattle.registers.specs.Registers.{numbers_of, wide}
use Rattle.registers.specs.Steps.{lists_of, refuse_gate}
use Rattle.registers.proofs.Accepted.{ok_none, refused, gate_accepted}
use Rattle.registers.proofs.file.File.gate.Goals as goal

pub gate_row-requires : goal.gate_row-requires
gate_row-requires g c =
    let set = c.set-set.result.now in
    let s = state_of c.args.self.now c.args.regs.now in
    let lists : Lists = lists_of c.args.keys.start.now c.args.keys.selectors.now c.args.keys.rows.now c.args.small.now c.args.work.now c.args.scratch.now in
    let a = gate_accepted (numbers_of set) (g.S.Sweep.count c.set-set.result.now.within) lists s c.args.x c.args.y c.args.z (ok_none _ c.in_ok-check_gate.field-0 c.in_ok-check_gate.ensures.answer) in
    let n = sym c.registers.ensures.value in
    record {
      start = a.start_long;
      selectors = a.selectors_long;
      rows = a.rows_long;
      whole = a.ready.whole ∙ ap (λ (k : ℕ). k * wide (numbers_of set)) n;
      small = a.small_long;
      work = a.work_long;
      scratch = a.scratch_long;
      x = subst (λ (k : ℕ). c.args.x < k) n (a.ready.low c.args.x (inl refl));
      y = subst (λ (k : ℕ). c.args.y < k) n (a.ready.low c.args.y (inr (inl refl)));
      z = subst (λ (k : ℕ). c.args.z < k) n (a.ready.low c.args.z (inr (inr (inl refl))));
    }

pub returns-in_err-check_gate-clause-state : goal.returns-in_err-check_gate-clause-state
returns-in_err-check_gate-clause-state g c =
    let s = state_of c.args.self.now c.args.regs.now in
    let lists : Lists = lists_of c.args.keys.start.now c.args.keys.selectors.now c.args.keys.rows.now c.args.small.now c.args.work.now c.args.scratch.now in
    refused _ _ _ _ (c.in_err-check_gate.ensures.answer ∙ ap (λ (v : Set). told (refuse_gate (numbers_of v) (g.S.Sweep.count v.within) lists s c.args.x c.args.y c.args.z)) c.set-set.ensures)
