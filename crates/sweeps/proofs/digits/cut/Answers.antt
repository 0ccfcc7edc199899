use Rattle.std.proofs.Common.{◌-◌, ◌^◌, length, get_or, ℤ, sym, ap, ◌∙◌, arith}
use Rattle.algebra.specs.Digits.{digit}
use Rattle.sweeps.specs.Held.{under}
use Rattle.sweeps.proofs.Filled.{digit_first, digit_only, digit_next, words_each}
use Rattle.sweeps.proofs.digits.cut.Goals as goal

pub returns-then-left-gt1 : goal.returns-then-left-gt1
returns-then-left-gt1 c =
    let B = 2 ^ c.args.gadget.now.width in
    let n = c.args.left in
    let xs = c.args.rest.now in
    record {
      row = c.peel.ensures.row ∙ words_each (length xs) c.args.gadget.now.modulus.value _ _ (λ k h. sym (digit_first B n (under (get_or xs k 0)) c.if-left-gt1.true));
      rest = λ k j h l. ap (λ (z : ℤ). digit B (n - 1) z j) (c.peel.ensures.rest k h) ∙ digit_next B n (under (get_or xs k 0)) j c.if-left-gt1.true;
      held = c.peel.ensures.held;
    }

pub returns-else-left-gt1 : goal.returns-else-left-gt1
returns-else-left-gt1 c =
    let B = 2 ^ c.args.gadget.now.width in
    let n = c.args.left in
    let xs = c.args.rest.now in
    record {
      row = c.finish.ensures ∙ words_each (length xs) c.args.gadget.now.modulus.value _ _ (λ k h. sym (digit_only B n (under (get_or xs k 0)) (omega arith)));
      rest = λ k j h l. absurd (omega arith);
      held = c.requires.held;
    }
