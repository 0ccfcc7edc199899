use Rattle.std.proofs.Common.{◌≡◌, ◌^◌, length, ℤ, ap, ◌∙◌, arith, w64, SFits, to_z, of_z, rules}
use Rattle.std.proofs.lemmas.Int.{to_z-of_z}
use Rattle.algebra.specs.Digits.{digit_of, rest_of}
use Rattle.words.proofs.Filling.{digits_more, digits_last}
use Rattle.words.proofs.gadget.Gadget.fill.Goals as goal

pub loop-place-preserved : goal.loop-place-preserved
loop-place-preserved c =
    let B = 2 ^ c.args.self.now.width in
    let i = c.loop-place.u-is in
    let fd : SFits w64 c.step.result.0 = search rules in
    let fr : SFits w64 c.step.result.1 = search rules in
    let d : to_z w64 (of_z w64 c.step.result.0) ≡ digit_of B c.loop-place.u =
    to_z-of_z w64 c.step.result.0 fd ∙ c.step.ensures.digit ∙ ap (λ (z : ℤ). digit_of B z) i in
    let r : to_z w64 (of_z w64 c.step.result.1) ≡ rest_of B c.loop-place.u =
    to_z-of_z w64 c.step.result.1 fr ∙ c.step.ensures.rest ∙ ap (λ (z : ℤ). rest_of B z) i in
    let m = digits_more c.loop-place.place-items B c.loop-place.place-index (length c.in-Some.firsts.now) c.loop-place.u (omega arith) (omega arith) in
    rw (d, r) (m ∙ rw i at c.loop-place.invariant)

pub returns-after-loop-place : goal.returns-after-loop-place
returns-after-loop-place c =
    let i = c.loop-place.u-is in
    let v = to_z-of_z w64 c.args.number c.ranges.number in
    let e : c.loop-place.place-index ≡ length c.in-Some.firsts.now = omega arith in
    let n = rw (e, v, i) at c.loop-place.invariant in
    rw i (digits_last c.loop-place.place-items (2 ^ c.args.self.now.width) (length c.in-Some.firsts.now) (length c.args.out.now) c.loop-place.u c.args.number (omega arith) (let h = c.in-Some.ensures.cases in omega arith) n)
