use Rattle.std.proofs.Common.{sym, ◌∙◌}
use Rattle.transform.specs.Rows.{row_quotients}
use Rattle.transform.proofs.roots.Roots.of.Goals as goal

pub invariant_of-result : goal.invariant_of-result
invariant_of-result c =
    let r = c.args.ring.now in
    let w = c.row_of.ensures in
    let ws = c.row_of-2.ensures in
    record {
      long = ws.long ∙ sym w.long;
      shoup = row_quotients r c.args.s c.row_of.result.now c.row_of-2.result.now c.requires w.same ws.same w.long;
    }
