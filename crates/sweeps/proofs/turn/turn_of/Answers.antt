use Rattle.std.proofs.Common.{◌≡◌, ℕ, ◌+◌, ◌*◌, ◌/◌, ◌%◌, ◌<◌, ap, ◌∙◌, arith}
use Rattle.std.proofs.lemmas.Nat.{le-div}
use Rattle.sweeps.proofs.Circle.{turn_value, turn_below, circle}
use Rattle.sweeps.proofs.turn.turn_of.Goals as goal

pub returns : goal.returns
returns c =
    let s = c.args.set.now in
    let n = s.within.numbers in
    let e = c.args.e in
    let q = n.small in
    let N = n.degree in
    let some : 0 < q = omega (arith, s.within.moduli) in
    let unit : 0 < (N + N) / q = le-div 1 (N + N) q some (omega (arith, s.within.moduli)) in
    let same : 2 * c.degree.result / c.small-q.result * (e % c.small-q.result) ≡ (N + N) / q * (e % q) =
    rw c.small-q.ensures.value (ap (λ (m : ℕ). m / q * (e % q)) {x = 2 * c.degree.result} {y = N + N} (omega (arith, c.degree.ensures.value))) in
    record {
      rest = same;
      value = same ∙ turn_value ((N + N) / q) q e (N + N) some unit (circle s.within);
      below = rw same (turn_below ((N + N) / q) q e (N + N) some unit (circle s.within));
    }
