use Rattle.std.proofs.Common.{◌≡◌, ℕ, length, None, ap, ◌∙◌}
use Rattle.faults.specs.Least.{told}
use Rattle.set.specs.declared.numbers.Numbers.{Numbers}
use Rattle.set.specs.declared.checked.Set.{Set}
use Rattle.registers.specs.declared.lists.Lists.{Lists}
use Rattle.registers.specs.Registers.{numbers_of}
use Rattle.registers.specs.Steps.{refuse_new}
use Rattle.calls.specs.Calls.{handed_lists}
use Rattle.calls.specs.Runs.{refuse_run}
use Rattle.calls.proofs.Refused.{file_made, never}
use Rattle.calls.proofs.Turns.{ok_none}
use Rattle.calls.proofs.run.begin.Goals as goal

-- a file whose lists were checked is made
pub returns-in_err-file : goal.returns-in_err-file
returns-in_err-file g c =
    let m : Numbers = numbers_of c.args.engine.now.set in
    let count : ℕ = g.S.Sweep.count c.args.engine.now.set.within in
    let lists : Lists = handed_lists c.args.keys.start.now c.args.keys.selectors.now c.args.keys.rows.now c.args.small.now c.args.work.now c.args.scratch.now in
    let none : refuse_run m count c.args.count (length c.args.calls.now) (length c.args.got.now) (length c.args.reads.now) (length c.args.regs.now) lists ≡ None =
    ok_none (refuse_run m count c.args.count (length c.args.calls.now) (length c.args.got.now) (length c.args.reads.now) (length c.args.regs.now) lists) c.in_ok-check_run.field-0
    (c.in_ok-check_run.ensures
    ∙ ap (λ (v : Set). told (refuse_run (numbers_of v) (g.S.Sweep.count v.within) c.args.count (length c.args.calls.now) (length c.args.got.now) (length c.args.reads.now) (length c.args.regs.now) lists)) c.set.ensures) in
    never c.in_err-file.field-0.0 (refuse_new m c.args.count (length c.args.regs.now)) (rw c.set-2.ensures at c.in_err-file.ensures.answer)
    (file_made m count c.args.count (length c.args.calls.now) (length c.args.got.now) (length c.args.reads.now) (length c.args.regs.now) lists none)
