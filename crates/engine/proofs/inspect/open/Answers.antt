use Rattle.std.proofs.Common.{◌≡◌, ℕ, sym, ap, ◌∙◌, ap₂, arith}
use Rattle.std.proofs.lemmas.Result.{err_from_is_err_and}
use Rattle.set.specs.declared.numbers.Numbers.{Numbers}
use Rattle.set.specs.Rules.{set_broken}
use Rattle.set.proofs.Limits.{Short}
use Rattle.image.specs.Bytes.{numbers_of}
use Rattle.engine.specs.Load.{image_numbers, parts_broken}
use Rattle.engine.proofs.Shown.{set_bytes}
use Rattle.engine.proofs.Refusals.{keys_refused, keys_least, keys_first, keys_next, keys_last, parts_right, within_short}
use Rattle.engine.proofs.inspect.open.Goals as goal

pub returns-in_err-parts : goal.returns-in_err-parts
returns-in_err-parts g c =
    let p = err_from_is_err_and c.from_residual.result c.from_residual.ensures.1 in
    let image = c.args.image.now in
    let f = c.in_err-parts.field-0.0 in
    let e = c.in_err-parts.ensures.answer in
    rw (p.1, p.2)
    (record {
      answer = λ stated count h k. keys_first image stated count f e;
      parts = tt;
      made = tt;
      least = λ stated count h k. keys_refused image stated count f e;
    })

pub returns-in_err-set : goal.returns-in_err-set
returns-in_err-set g c =
    let p = err_from_is_err_and c.from_residual-in_err-set.result c.from_residual-in_err-set.ensures.1 in
    let image = c.args.image.now in
    let m = c.numbers.result in
    let same : m ≡ image_numbers image = c.numbers.ensures ∙ ap numbers_of (c.bytes.ensures ∙ set_bytes image c.in_ok-parts.parts c.in_ok-parts.ensures.parts) in
    let short : Short m =
    record { degree_short = omega arith; small_short = omega arith; dropped_short = omega arith; base_short = omega arith; switch_short = omega arith; radix_short = omega arith } in
    rw (p.1, p.2)
    (record {
      answer = λ stated count h k.
          keys_next image stated count c.in_err-set.field-0.0 c.in_ok-parts.ensures.answer
          (c.in_err-set.ensures.answer stated (λ w q. h w (q ∙ same)) ∙ ap (λ (x : Numbers). set_broken x stated) same);
      parts = tt;
      made = tt;
      least = λ stated count h k. keys_least image stated count m short same;
    })

pub check_parts-requires : goal.check_parts-requires
check_parts-requires g c = omega (arith, c.selectors.ensures, (g.met.S.Sweep.few c.in_ok-set.set.within).1)

pub returns-in_err-check_parts : goal.returns-in_err-check_parts
returns-in_err-check_parts g c =
    let p = err_from_is_err_and c.from_residual-in_err-check_parts.result c.from_residual-in_err-check_parts.ensures.1 in
    let image = c.args.image.now in
    let m = c.numbers.result in
    let w = c.in_ok-set.set.within in
    let same : m ≡ image_numbers image = c.numbers.ensures ∙ ap numbers_of (c.bytes.ensures ∙ set_bytes image c.in_ok-parts.parts c.in_ok-parts.ensures.parts) in
    let held : w.numbers ≡ image_numbers image = c.in_ok-set.ensures.made.0 ∙ same in
    rw (p.1, p.2)
    (record {
      answer = λ stated count h k.
          keys_last image stated count _ c.in_ok-parts.ensures.answer
          (c.in_ok-set.ensures.answer stated (λ v q. h v (q ∙ same)) ∙ ap (λ (x : Numbers). set_broken x stated) same)
          (c.in_err-check_parts.ensures ∙ ap₂ (λ (x : Numbers) (y : ℕ). parts_broken x y image) held (c.selectors.ensures ∙ k w held));
      parts = tt;
      made = tt;
      least = λ stated count h k. keys_least image stated count w.numbers (within_short w) held;
    })

pub returns : goal.returns
returns g c =
    let image = c.args.image.now in
    let m = c.numbers.result in
    let w = c.in_ok-set.set.within in
    let same : m ≡ image_numbers image = c.numbers.ensures ∙ ap numbers_of (c.bytes.ensures ∙ set_bytes image c.in_ok-parts.parts c.in_ok-parts.ensures.parts) in
    let held : w.numbers ≡ image_numbers image = c.in_ok-set.ensures.made.0 ∙ same in
    record {
      answer = λ stated count h k.
          keys_last image stated count _ c.in_ok-parts.ensures.answer
          (c.in_ok-set.ensures.answer stated (λ v q. h v (q ∙ same)) ∙ ap (λ (x : Numbers). set_broken x stated) same)
          (c.in_ok-check_parts.ensures ∙ ap₂ (λ (x : Numbers) (y : ℕ). parts_broken x y image) held (c.selectors.ensures ∙ k w held));
      parts = c.in_ok-parts.ensures.parts;
      made =
          record {
            numbers = held;
            stated = c.in_ok-set.ensures.made.1;
            directory = sym c.in_ok-parts.ensures.answer;
            parts = parts_right (image_numbers image) (g.S.Sweep.count w) image
                (sym (c.in_ok-check_parts.ensures ∙ ap₂ (λ (x : Numbers) (y : ℕ). parts_broken x y image) held c.selectors.ensures));
          };
      least = λ stated count h k. keys_least image stated count w.numbers (within_short w) held;
    }
