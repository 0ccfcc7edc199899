use Rattle.std.proofs.Common.{ℕ, ◌+◌, ◌*◌, ◌%◌, ◌^◌, sym, ap, ◌∙◌, ap₂, arith}
use Rattle.words.specs.declared.gadget.Gadget.{Gadget}
use Rattle.gate.proofs.Sets.{divides}
use Rattle.gate.proofs.stages.switch.switch_right.Goals as goal

pub switch_words-requires : goal.switch_words-requires
switch_words-requires c =
    let set = c.args.set.now in
    let N = set.within.numbers.degree in
    let g = c.switcher.ensures in
    record {
      whole = ap (λ (x : Gadget). 2 ^ x.shift) g ∙ set.places.1;
      divides = ap (λ (x : Gadget). 2 ^ 32 % x.modulus.value) g ∙ ap (λ (m : ℕ). 2 ^ 32 % m) set.places.0 ∙ divides set.within;
      words = omega (arith, c.requires.words, c.degree.ensures.value);
      rows = c.requires.rows
          ∙ ap₂ (λ (m k : ℕ). m * (k * (set.within.numbers.dimension + 1))) (sym c.degree.ensures.value) (sym (ap (λ (x : Gadget). x.digits) g ∙ set.places.3))
          ∙ ap (λ (n : ℕ). c.degree.result * (c.switcher.result.now.digits * (n + 1))) (sym c.dimension.ensures.value);
      out = omega (arith, c.requires.out, c.dimension.ensures.value);
      few = omega (arith, c.dimension.ensures.range);
    }
