use Rattle.std.proofs.Common.{◌≡◌, ℕ, sym, ap, ◌∙◌, ap₂, arith}
use Rattle.std.proofs.lemmas.Result.{err_from_is_err_and}
use Rattle.set.specs.declared.numbers.Numbers.{Numbers}
use Rattle.engine.specs.Load.{image_numbers, load_lists, image_words_broken}
use Rattle.engine.proofs.Refusals.{load_least, load-first, load-next, load-last}
use Rattle.engine.proofs.load.accepted.Goals as goal

pub returns-in_err-parts : goal.returns-in_err-parts
returns-in_err-parts g c =
    let p = err_from_is_err_and c.from_residual.result c.from_residual.ensures.1 in
    let image = c.args.image.now in
    let a = c.args.lengths.now in
    rw (p.1, p.2)
    (record {
      answer = λ stated count h k.
          load-first image stated count a.start a.selectors a.rows a.scratch c.in_err-parts.field-0.0 (c.in_err-parts.ensures.answer stated count h k);
      parts = tt;
      made = tt;
      lists = tt;
      words = tt;
      least = λ stated count h k.
          load_least image stated count a.start a.selectors a.rows a.scratch (c.in_err-parts.ensures.least stated count h k);
    })

pub check_lists-requires : goal.check_lists-requires
check_lists-requires g c = omega (arith, c.selectors.ensures, (g.met.S.Sweep.few c.in_ok-parts.set.within).1)

pub returns-in_err-check_lists : goal.returns-in_err-check_lists
returns-in_err-check_lists g c =
    let p = err_from_is_err_and c.from_residual-in_err-check_lists.result c.from_residual-in_err-check_lists.ensures.1 in
    let image = c.args.image.now in
    let a = c.args.lengths.now in
    let w = c.in_ok-parts.set.within in
    let held : w.numbers ≡ image_numbers image = c.in_ok-parts.ensures.made.numbers in
    rw (p.1, p.2)
    (record {
      answer = λ stated count h k.
          load-next image stated count a.start a.selectors a.rows a.scratch c.in_err-check_lists.field-0.0 (c.in_ok-parts.ensures.answer stated count h k)
          (c.in_err-check_lists.ensures
          ∙ ap₂ (λ (x : Numbers) (y : ℕ). load_lists x y a.start a.selectors a.rows a.scratch) held (c.selectors.ensures ∙ k w held));
      parts = tt;
      made = tt;
      lists = tt;
      words = tt;
      least = λ stated count h k.
          load_least image stated count a.start a.selectors a.rows a.scratch (c.in_ok-parts.ensures.least stated count h k);
    })

pub returns-in_err-check_words : goal.returns-in_err-check_words
returns-in_err-check_words g c =
    let p = err_from_is_err_and c.from_residual-in_err-check_words.result c.from_residual-in_err-check_words.ensures.1 in
    let image = c.args.image.now in
    let a = c.args.lengths.now in
    let w = c.in_ok-parts.set.within in
    let held : w.numbers ≡ image_numbers image = c.in_ok-parts.ensures.made.numbers in
    rw (p.1, p.2)
    (record {
      answer = λ stated count h k.
          load-last image stated count a.start a.selectors a.rows a.scratch _ (c.in_ok-parts.ensures.answer stated count h k)
          (c.in_ok-check_lists.ensures
          ∙ ap₂ (λ (x : Numbers) (y : ℕ). load_lists x y a.start a.selectors a.rows a.scratch) held (c.selectors.ensures ∙ k w held))
          (c.in_err-check_words.ensures ∙ ap (λ (x : Numbers). image_words_broken x image) held);
      parts = tt;
      made = tt;
      lists = tt;
      words = tt;
      least = λ stated count h k.
          load_least image stated count a.start a.selectors a.rows a.scratch (c.in_ok-parts.ensures.least stated count h k);
    })

pub returns : goal.returns
returns g c =
    let image = c.args.image.now in
    let a = c.args.lengths.now in
    let w = c.in_ok-parts.set.within in
    let held : w.numbers ≡ image_numbers image = c.in_ok-parts.ensures.made.numbers in
    record {
      answer = λ stated count h k.
          load-last image stated count a.start a.selectors a.rows a.scratch _ (c.in_ok-parts.ensures.answer stated count h k)
          (c.in_ok-check_lists.ensures
          ∙ ap₂ (λ (x : Numbers) (y : ℕ). load_lists x y a.start a.selectors a.rows a.scratch) held (c.selectors.ensures ∙ k w held))
          (c.in_ok-check_words.ensures ∙ ap (λ (x : Numbers). image_words_broken x image) held);
      parts = c.in_ok-parts.ensures.parts;
      made = c.in_ok-parts.ensures.made;
      lists = sym (c.in_ok-check_lists.ensures ∙ ap (λ (y : ℕ). load_lists w.numbers y a.start a.selectors a.rows a.scratch) c.selectors.ensures);
      words = sym c.in_ok-check_words.ensures;
      least = λ stated count h k.
          load_least image stated count a.start a.selectors a.rows a.scratch (c.in_ok-parts.ensures.least stated count h k);
    }
