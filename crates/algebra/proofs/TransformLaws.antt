-- The laws of the transform, collected.
use Rattle.algebra.specs.TransformLaws.{TransformLaws}
use Rattle.algebra.proofs.Inverse.{root_odd, root_inverse, halves, settled, interpolates}
use Rattle.algebra.proofs.Blocks.{block_low, block_high, block_last}

pub transform_laws : TransformLaws
transform_laws = record {
  roots = root_odd;
  inverse = root_inverse;
  halves = halves;
  settled = settled;
  interpolates = interpolates;
  low = block_low;
  high = block_high;
  last = block_last;
}
