use Rattle.std.proofs.lemmas.Nat.{mul-lt}
use Rattle.transform.proofs.pointwise.fuse_word.Goals as goal

pub barrett-product-requires : goal.barrett-product-requires
barrett-product-requires c = mul-lt c.args.a c.args.b _ _ c.requires.left c.requires.right
