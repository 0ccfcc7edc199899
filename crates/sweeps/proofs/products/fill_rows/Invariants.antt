use Rattle.std.proofs.Common.{◌≡◌, ℕ, ◌+◌, ◌-◌, ◌^◌, ◌<◌, get_or}
use Rattle.algebra.specs.Digits.{digit}
use Rattle.algebra.specs.Words.{words}
use Rattle.sweeps.specs.Forms.{row_of}
use Rattle.sweeps.specs.Held.{under, AllHeld}
use Rattle.sweeps.proofs.products.fill_rows.Given as goal

abbrev pub invariant-loop-i : goal.invariant-loop-i
invariant-loop-i g l =
    let r = l.ring in
    let B = 2 ^ l.gadget.width in
    let d = l.gadget.digits in
    ((j : ℕ) → j < l.i → row_of r.degree l.rows j ≡ g.K.Kernel.form r (words r.degree r.modulus (λ k. digit B d (under (get_or l.initial.rest k 0)) j)))
    × ((k j : ℕ) → k < r.degree → l.i + j < d → digit B (d - l.i) (under (get_or l.rest k 0)) j ≡ digit B d (under (get_or l.initial.rest k 0)) (l.i + j))
    × AllHeld r.modulus l.rest
