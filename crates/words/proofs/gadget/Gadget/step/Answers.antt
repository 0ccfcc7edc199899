use Rattle.std.proofs.Common.{◌≡◌, ◌^◌, ℤ, pos, ◌+ℤ◌, ◌-ℤ◌, ◌*ℤ◌, ap, ◌∙◌, w64, SFits, to_z, of_z, rules}
use Rattle.std.proofs.lemmas.Int.{to_z-of_z}
use Rattle.algebra.specs.Ints.{floor_z}
use Rattle.words.proofs.Steps.{step_low, step_high, right_of}
use Rattle.words.proofs.gadget.Gadget.step.Goals as goal

pub returns-then-left-base : goal.returns-then-left-base
returns-then-left-base c =
    let w = c.args.self.now.width in
    let g = c.args.self.now.base in
    let i = to_z-of_z w64 c.args.u c.ranges.u in
    let e : c.floor_by-floor.result ≡ floor_z c.args.u (2 ^ w) = c.floor_by-floor.ensures ∙ ap (λ (z : ℤ). floor_z z (2 ^ w)) i in
    let r : c.left_by-left.result ≡ c.args.u -ℤ pos (2 ^ w) *ℤ floor_z c.args.u (2 ^ w) =
    c.left_by-left.ensures.value ∙ ap (λ (z : ℤ). z -ℤ pos (2 ^ w) *ℤ floor_z z (2 ^ w)) i in
    let d = step_low c.args.u c.floor_by-floor.result c.left_by-left.result c.base_of-base.result w g.1 g.0 c.ranges.u e c.base_of-base.ensures r c.if-left-base.true in
    record { digit = d.0; rest = d.1; right = right_of c.args.u w g.0 _ _ d.0 d.1 }

pub returns-else-left-base : goal.returns-else-left-base
returns-else-left-base c =
    let w = c.args.self.now.width in
    let g = c.args.self.now.base in
    let i = to_z-of_z w64 c.args.u c.ranges.u in
    let e : c.floor_by-floor.result ≡ floor_z c.args.u (2 ^ w) = c.floor_by-floor.ensures ∙ ap (λ (z : ℤ). floor_z z (2 ^ w)) i in
    let r : c.left_by-left.result ≡ c.args.u -ℤ pos (2 ^ w) *ℤ floor_z c.args.u (2 ^ w) =
    c.left_by-left.ensures.value ∙ ap (λ (z : ℤ). z -ℤ pos (2 ^ w) *ℤ floor_z z (2 ^ w)) i in
    let t : SFits w64 (to_z w64 (of_z w64 c.floor_by-floor.result) +ℤ pos 1) = search rules in
    let d = step_high c.args.u c.floor_by-floor.result c.left_by-left.result c.base_of-base.result w g.1 g.0 c.ranges.u e c.base_of-base.ensures r c.if-left-base.false t in
    record { digit = d.0; rest = d.1; right = right_of c.args.u w g.0 _ _ d.0 d.1 }
