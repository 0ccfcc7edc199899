use Rattle.std.proofs.Common.{◌≡◌, ℕ, ◌+◌, ◌*◌, ◌^◌, ◌<◌, List, length, get_or, pos, ◌*ℤ◌, ap, ◌∙◌, arith}
use Rattle.algebra.specs.Words.{word_of}
use Rattle.gate.proofs.Rows.{added_none, added_then, one_row, part_at, room, digit_read}
use Rattle.gate.proofs.switching.add_digits.Goals as goal

pub loop-i-init : goal.loop-i-init
loop-i-init c = added_none c.args.out.now (λ i t. get_or c.args.digits.now i (pos 0) *ℤ pos (get_or c.args.rows.now (i * length c.args.out.now + t) 0))

pub part_of-requires : goal.part_of-requires
part_of-requires c =
    omega (arith, room c.loop-i.i (length c.args.out.now) (length c.args.digits.now) (omega arith), c.requires.rows)

pub loop-i-preserved : goal.loop-i-preserved
loop-i-preserved c =
    let i : ℕ = c.loop-i.i in
    let old : List ℕ = c.args.out.now in
    let k : length c.loop-i.out ≡ length c.args.out.now = omega arith in
    let row : (t : ℕ) → t < length old → get_or c.part_of.result.now t 0 ≡ get_or c.args.rows.now (i * length old + t) 0 = λ t l.
    ap (λ (xs : List ℕ). get_or xs t 0) c.part_of.ensures.same
    ∙ part_at c.args.rows.now i (length old) t l in
    added_then old c.loop-i.out c.add_row.new.out
    (λ i t. get_or c.args.digits.now i (pos 0) *ℤ pos (get_or c.args.rows.now (i * length old + t) 0))
    (λ t. get_or c.args.digits.now i (pos 0) *ℤ pos (get_or c.part_of.result.now t 0)) i k c.loop-i.invariant
    (λ t l. one_row (get_or c.args.digits.now i (pos 0)) c.wrapped.result (get_or c.loop-i.out t 0) (get_or c.part_of.result.now t 0)
    (get_or c.add_row.new.out t 0) (c.wrapped.ensures ∙ ap (word_of (2 ^ 32)) (digit_read (get_or c.args.digits.now i (pos 0)) (c.requires.small i (omega arith)))) (c.add_row.ensures t l))
    (λ t l. ap (λ (r : ℕ). get_or c.args.digits.now i (pos 0) *ℤ pos r) (row t l))
