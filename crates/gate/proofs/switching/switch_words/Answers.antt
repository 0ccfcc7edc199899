use Rattle.std.proofs.Common.{◌≡◌, ℕ, ◌+◌, ◌-◌, List, length, take, drop, ap, ◌∙◌, arith, length-take}
use Rattle.kernels.specs.Polynomials.{reduced}
use Rattle.gate.proofs.Rows.{added_lengths}
use Rattle.gate.proofs.Switched.{switched_from}
use Rattle.gate.proofs.switching.switch_words.Goals as goal

pub returns : goal.returns
returns c =
    let g = c.args.gadget.now in
    let n : ℕ = c.args.last in
    let N : ℕ = c.args.degree in
    let xs : List ℕ = c.args.words.now in
    let rows : List ℕ = c.args.rows.now in
    let long : length c.add_words.new.out ≡ c.args.last + 1 = omega arith in
    let front : length (take (c.args.degree - 0) (drop 0 c.args.words.now)) ≡ c.args.degree =
    length-take (c.args.degree - 0) c.args.words.now ∙ omega (arith, c.requires.words) in
    let old : length c.begin.new.out ≡ c.args.last + 1 = omega arith in
    c.divide.ensures
    ∙ ap (λ (l : ℕ). reduced l g.modulus.value c.add_words.new.out) long
    ∙ switched_from g N n xs rows c.begin.new.out c.add_words.new.out c.requires.whole c.requires.divides c.begin.ensures long
    (added_lengths g c.begin.new.out c.add_words.new.out (take (N - 0) (drop 0 xs)) rows N (n + 1) front old c.add_words.ensures)
