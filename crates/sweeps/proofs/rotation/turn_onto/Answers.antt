use Rattle.std.proofs.Common.{◌≡◌, ℕ, ◌+◌, ◌%◌, length, ap, ◌∙◌}
use native.Mathlib.Nat.{mod-mod}
use Rattle.algebra.specs.Sweeps.{stepped}
use Rattle.algebra.specs.Words.{coeffs, words}
use Rattle.sweeps.specs.Meaning.{turns}
use Rattle.sweeps.proofs.Calls.{words_set}
use Rattle.sweeps.proofs.Mixes.{stepped_agree}
use Rattle.sweeps.proofs.rotation.turn_onto.Goals as goal

pub returns : goal.returns
returns c =
    let s = c.args.set.now in
    let n = s.within.numbers in
    let sum = c.args.sum.now in
    let acc = c.args.acc.now in
    let long : length acc ≡ n.degree = c.requires.acc.0 ∙ s.same.0 in
    let whole : c.gadget.result.now.modulus.value ≡ n.modulus = ap (λ t. t.modulus.value) c.gadget.ensures ∙ s.digits.0 in
    let t = c.turn_of.result in
    let made : c.mix_turned.new.acc ≡ words n.degree n.modulus (stepped n.degree (turns n c.args.e) (coeffs sum) (coeffs acc)) =
    c.mix_turned.ensures
    ∙ ap (λ (N : ℕ). words N c.gadget.result.now.modulus.value (stepped N t (coeffs sum) (coeffs acc))) long
    ∙ ap (λ (Q : ℕ). words n.degree Q (stepped n.degree t (coeffs sum) (coeffs acc))) whole
    ∙ stepped_agree n.degree n.modulus t (turns n c.args.e) (coeffs sum) (coeffs acc)
    (ap (λ (m : ℕ). m % (n.degree + n.degree)) c.turn_of.ensures.value ∙ mod-mod (turns n c.args.e) (n.degree + n.degree)) in
    record { value = made; poly = words_set s _ c.mix_turned.new.acc made }
