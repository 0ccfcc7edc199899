use Rattle.std.proofs.Common.{◌≡◌, ℕ, ◌*◌, List, length, sym, ap, ◌∙◌, subst, arith, rules}
use Rattle.std.proofs.lemmas.Result.{err_from_is_err_and}
use Rattle.set.specs.declared.checked.Set.{Set}
use Rattle.kernels.specs.Polynomials.{poly_of}
use Rattle.image.specs.Bytes.{first_words}
use Rattle.image.specs.Parts.{bytes_of}
use Rattle.engine.specs.Load.{selector_words, form_rows, SetOf, Filled, ReadsAs}
use Rattle.engine.proofs.Refusals.{lists_right}
use Rattle.engine.proofs.Shown.{start_bytes, selector_bytes, row_bytes}
use Rattle.engine.proofs.Loaded.{filled, reads_as}
use Rattle.engine.proofs.load.load.Goals as goal

pub returns-in_err-parts : goal.returns-in_err-parts
returns-in_err-parts g c =
    let p = err_from_is_err_and c.from_residual.result c.from_residual.ensures.1 in
    rw (p.1, p.2)
    (record {
      answer = c.in_err-parts.ensures.answer;
      made = tt;
      words = search rules;
      reads = tt;
      scratch = search rules;
      least = c.in_err-parts.ensures.least;
    })

pub fill-requires : goal.fill-requires
fill-requires g c =
    let s = c.in_ok-parts.set in
    let count = g.S.Sweep.count s.within in
    let h = lists_right s.within.numbers count (length c.args.start.now) (length c.args.selectors.now) (length c.args.rows.now) (length c.args.scratch.now)
    c.in_ok-parts.ensures.lists in
    record {
      count = omega (arith, c.selectors.ensures, (g.met.S.Sweep.few s.within).1);
      start = h.start_long;
      selectors = h.selectors_long ∙ ap (selector_words s.within.numbers) (sym c.selectors.ensures);
      scratch = h.scratch_long;
    }

pub returns : goal.returns
returns g c =
    let s = c.in_ok-parts.set in
    let k = g.K.Kernel in
    let count = g.S.Sweep.count in
    let noise = g.S.Sweep.noise in
    let image = c.args.image.now in
    let parts = c.in_ok-parts.parts in
    let shown = c.in_ok-parts.ensures.parts in
    let e : c.new.result.set ≡ s = c.new.ensures.2 in
    let of : SetOf noise count image s = c.in_ok-parts.ensures.made in
    let start = c.fill.new.start in
    let selectors = c.fill.new.selectors in
    let rows = c.fill.new.rows in
    let first = c.fill.ensures.start
    ∙ ap (λ (b : List ℕ). form_rows (λ p. k.form s.ring (poly_of s.ring p)) s.ring.degree s.within.numbers.digits (first_words (length c.args.start.now) b)) (start_bytes image parts shown) in
    let second = c.fill.ensures.selectors
    ∙ ap (λ (n : ℕ). form_rows (λ p. k.form s.ring (poly_of s.ring p)) s.ring.degree (n * s.within.numbers.digits) (first_words (length c.args.selectors.now) (bytes_of parts.selectors))) c.selectors.ensures
    ∙ ap (λ (b : List ℕ). form_rows (λ p. k.form s.ring (poly_of s.ring p)) s.ring.degree (count s.within * s.within.numbers.digits) (first_words (length c.args.selectors.now) b)) (selector_bytes image parts shown) in
    let third = c.fill.ensures.rows ∙ ap (first_words (length c.args.rows.now)) (row_bytes image parts shown) in
    record {
      answer = c.in_ok-parts.ensures.answer;
      made = (subst (λ (x : Set). SetOf noise count image x) (sym e) of, c.new.ensures.0, c.new.ensures.1);
      words = subst (λ (x : Set). Filled k.form x (count x.within) image start selectors rows) (sym e)
          (filled g.met.K.Kernel.forms noise count image s of (length c.args.start.now) (length c.args.selectors.now) (length c.args.rows.now) (length c.args.scratch.now)
          c.in_ok-parts.ensures.lists c.in_ok-parts.ensures.words start selectors rows first second third);
      reads = subst (λ (x : Set). ReadsAs k.reads x (count x.within) image start selectors) (sym e)
          (reads_as g.met.K.Kernel.forms noise count image s of (length c.args.start.now) (length c.args.selectors.now) (length c.args.rows.now) (length c.args.scratch.now)
          c.in_ok-parts.ensures.lists c.in_ok-parts.ensures.words start selectors rows first second third);
      scratch = search rules;
      least = c.in_ok-parts.ensures.least;
    }
