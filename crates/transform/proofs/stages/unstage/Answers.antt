use Rattle.std.proofs.Common.{◌≡◌, ◌+◌, length, get_or, ◌++◌, ap, ◌∙◌, arith}
use Rattle.std.proofs.lemmas.List.{get_or_append_left, get_or-append-add}
use Rattle.transform.proofs.stages.unstage.Goals as goal

pub returns : goal.returns
returns c j h =
    let front = c.loop-j.front in
    let back = c.loop-j.back in
    let long : length front ≡ length c.args.roots.now.factors.now = omega (arith, c.loop-j.auto.front, c.split_at_mut-front.ensures.front_len) in
    let end : c.loop-j.j ≡ length front = omega arith in
    let both = c.loop-j.invariant j (omega arith) in
    let place : j + length c.args.roots.now.factors.now ≡ length front + j = omega arith in (
      get_or_append_left front back 0 j (omega arith) ∙ both.0,
      ap (λ i. get_or (front ++ back) i 0) place ∙ (get_or-append-add front back j 0 ∙ both.1),
    )
