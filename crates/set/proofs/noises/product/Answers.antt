use Rattle.std.proofs.Common.{arith, rules}
use Rattle.set.proofs.Products.{product_small}
use Rattle.set.proofs.noises.product.Goals as goal

pub overflow_mul-result-3 : goal.overflow_mul-result-3
overflow_mul-result-3 c = omega (arith, product_small c.args.length c.args.digits c.args.base c.args.noise c.requires.length c.requires.digits c.requires.base c.requires.noise)

pub returns : goal.returns
returns c =
    let s = product_small c.args.length c.args.digits c.args.base c.args.noise c.requires.length c.requires.digits c.requires.base c.requires.noise in
    record { value = search rules; small = s }
