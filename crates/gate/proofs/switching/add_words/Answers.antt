use Rattle.std.proofs.Common.{◌≡◌, ℕ, ◌+◌, ◌*◌, List, length, get_or, pos, ◌*ℤ◌, ap, ◌∙◌, arith}
use Rattle.algebra.proofs.Sums.{sum_same}
use Rattle.gate.specs.Stages.{split_by, rows_of, all_rows_of}
use Rattle.gate.proofs.Rows.{added_none, added_then, part_at, room, part_room}
use Rattle.gate.proofs.switching.add_words.Goals as goal

pub loop-j-init : goal.loop-j-init
loop-j-init c = added_none c.args.out.now (all_rows_of c.args.gadget.now c.args.words.now (length c.args.out.now) c.args.rows.now)

pub part_of-requires : goal.part_of-requires
part_of-requires c =
    omega (arith, room c.loop-j.j (c.args.gadget.now.digits * length c.args.out.now) (length c.args.words.now) (omega arith), c.requires.rows)

pub loop-j-preserved : goal.loop-j-preserved
loop-j-preserved c =
    let g = c.args.gadget.now in
    let j : ℕ = c.loop-j.j in
    let old : List ℕ = c.args.out.now in
    let xs : List ℕ = c.args.words.now in
    let rows : List ℕ = c.args.rows.now in
    let k : length c.loop-j.out ≡ length c.args.out.now = omega arith in
    added_then old c.loop-j.out c.add_word.new.out
    (all_rows_of g xs (length old) rows)
    (rows_of (split_by g (get_or xs j 0)) g.digits (length c.loop-j.out) c.part_of.result.now) j k c.loop-j.invariant
    c.add_word.ensures
    (λ t l. ap (λ (w : ℕ). rows_of (split_by g (get_or xs j 0)) g.digits w c.part_of.result.now t) k
    ∙ sum_same g.digits _ _ (λ i b. ap (λ (r : ℕ). get_or (split_by g (get_or xs j 0)) i (pos 0) *ℤ pos r)
    (ap (λ (ws : List ℕ). get_or ws (i * length old + t) 0) c.part_of.ensures.same
    ∙ part_at rows j (g.digits * length old) (i * length old + t) (part_room i (length old) g.digits t b l))))
