use Rattle.std.proofs.Common.{◌≡◌, ℕ, ◌/◌, Bool, cond, ℤ, pos, ◌-ℤ◌, neg_ℤ, sym, ap, ◌∙◌, mod-eq_of_lt, arith}
use borrow.Author.Differences.{ints}
use Rattle.algebra.specs.Words.{word_of}
use Rattle.gate.proofs.beginning.coefficient.Goals as goal

pub returns-then-is_turned_delta : goal.returns-then-is_turned_delta
returns-then-is_turned_delta c =
    let m : ℕ = c.args.modulus.value in
    let δ : ℤ = pos (m / 8) in
    sym (ap (word_of m) (c.is_turned_delta.ensures δ ∙ ap (λ (b : Bool). cond b δ (neg_ℤ δ)) c.if-is_turned_delta.true)
    ∙ mod-eq_of_lt (omega (arith, c.args.modulus.low)))

pub returns-else-is_turned_delta : goal.returns-else-is_turned_delta
returns-else-is_turned_delta c =
    let m : ℕ = c.args.modulus.value in
    let δ : ℤ = pos (m / 8) in
    let less : pos 0 -ℤ δ ≡ neg_ℤ δ = omega (arith, ints) in
    c.minus.ensures.value
    ∙ ap (word_of m) (less ∙ sym (c.is_turned_delta.ensures δ ∙ ap (λ (b : Bool). cond b δ (neg_ℤ δ)) c.if-is_turned_delta.false))
