use Rattle.std.proofs.Common.{ℕ, ◌+◌, ◌*◌, ◌/◌, ◌^◌, ◌≤◌, arith}
use Rattle.std.proofs.lemmas.Nat.{mul-le}
use Rattle.set.specs.declared.within.Within.{Within}
use Rattle.set.proofs.Products.{drops_small}
use Rattle.set.proofs.steps.Steps.stated.Goals as goal
use Rattle.set.proofs.steps.Steps.stated.Goals.{in-Single, in-Paired}

-- few steps of few selectors state little noise
small : (w : Within) (keys steps selectors : ℕ) → keys ≤ 31 * 2 ^ 36 → (steps ≤ 512) × (selectors ≤ 3)
    → steps * (selectors * keys + 2 * (w.numbers.dropped / 2) * w.numbers.weight) ≤ 2 ^ 55
small w keys steps selectors h few =
    let l = w.lengths in
    let drops = 2 * (w.numbers.dropped / 2) * w.numbers.weight in
    let d = drops_small (w.numbers.dropped / 2) w.numbers.weight (let s = w.split.0 in omega arith) (let s = w.secrets.0 in omega (arith, s, l)) in
    let k = mul-le selectors keys 3 (31 * 2 ^ 36) few.1 h in
    let x = mul-le steps (selectors * keys + drops) 512 (2 ^ 44) few.0 (omega (arith, k, d)) in
    omega (arith, x)

pub overflow_mul-result-2 : goal.overflow_mul-result-2
overflow_mul-result-2 c =
    let w = c.args.within.now in
    let few : (c.match-self.steps.0 ≤ 512) × (c.match-self.steps.1 ≤ 3) =
    elim c.match-self.branch
    [ in-Single v ↦ rw v.steps-is (omega (arith, w.lengths.3), omega arith) | in-Paired v ↦ rw v.steps-is (omega (arith, w.lengths.3), omega arith) ] in
    omega (arith, small w c.product-keys.result c.match-self.steps.0 c.match-self.steps.1 c.product-keys.ensures.small few)

pub returns-clause-small : goal.returns-clause-small
returns-clause-small c =
    let w = c.args.within.now in
    let few : (c.match-self.steps.0 ≤ 512) × (c.match-self.steps.1 ≤ 3) =
    elim c.match-self.branch
    [ in-Single v ↦ rw v.steps-is (omega (arith, w.lengths.3), omega arith) | in-Paired v ↦ rw v.steps-is (omega (arith, w.lengths.3), omega arith) ] in
    small w c.product-keys.result c.match-self.steps.0 c.match-self.steps.1 c.product-keys.ensures.small few
