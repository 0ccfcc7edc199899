use Rattle.std.proofs.Common.{◌≡◌, ◌^◌, ℤ, ap, ◌∙◌, w64}
use Rattle.std.proofs.lemmas.Int.{to_z-of_z}
use Rattle.algebra.specs.Ints.{floor_z}
use Rattle.words.proofs.Steps.{product_right, left_fits, left_is, left_low, left_high}
use Rattle.words.proofs.gadget.split.left_by.Goals as goal

pub overflow_mul-result : goal.overflow_mul-result
overflow_mul-result c =
    let e : c.floor_by.result ≡ floor_z c.args.u (2 ^ c.args.width) =
    c.floor_by.ensures ∙ ap (λ (z : ℤ). floor_z z (2 ^ c.args.width)) (to_z-of_z w64 c.args.u c.ranges.u) in
    product_right c.args.u c.floor_by.result c.base_of.result c.args.width c.requires c.ranges.u e c.base_of.ensures

pub overflow_sub-result : goal.overflow_sub-result
overflow_sub-result c =
    let e : c.floor_by.result ≡ floor_z c.args.u (2 ^ c.args.width) =
    c.floor_by.ensures ∙ ap (λ (z : ℤ). floor_z z (2 ^ c.args.width)) (to_z-of_z w64 c.args.u c.ranges.u) in
    left_fits c.args.u c.floor_by.result c.base_of.result c.args.width c.requires c.ranges.u e c.base_of.ensures

pub returns : goal.returns
returns c =
    let e : c.floor_by.result ≡ floor_z c.args.u (2 ^ c.args.width) =
    c.floor_by.ensures ∙ ap (λ (z : ℤ). floor_z z (2 ^ c.args.width)) (to_z-of_z w64 c.args.u c.ranges.u) in
    let v = left_is c.args.u c.floor_by.result c.base_of.result c.args.width c.requires c.ranges.u e c.base_of.ensures in
    record { value = v; low = rw v (left_low c.args.u c.args.width); high = rw v (left_high c.args.u c.args.width) }
