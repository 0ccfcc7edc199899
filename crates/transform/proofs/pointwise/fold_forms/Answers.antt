use Rattle.std.proofs.Common.{◌∙◌}
use Rattle.transform.proofs.Folding.{fold_at}
use Rattle.transform.proofs.pointwise.fold_forms.Goals as goal

pub returns-then-all_reduced : goal.returns-then-all_reduced
returns-then-all_reduced c =
    c.fuse_low.ensures ∙ fold_at c.args.ring.now c.args.acc.now c.args.left.now c.args.right.now c.requires.zero

pub returns-else-all_reduced : goal.returns-else-all_reduced
returns-else-all_reduced c =
    c.fuse_any.ensures ∙ fold_at c.args.ring.now c.args.acc.now c.args.left.now c.args.right.now c.requires.zero
