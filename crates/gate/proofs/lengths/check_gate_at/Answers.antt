use Rattle.std.proofs.Common.{ℕ, length, max, ap, ◌∙◌}
use Rattle.gate.proofs.Reach.{x_within, y_within, z_within}
use Rattle.gate.proofs.lengths.check_gate_at.Goals as goal

pub returns : goal.returns
returns c =
    let n = c.args.set.now.within.numbers in
    let d = c.degree.ensures.value in
    let w = c.cipher_words.ensures.value in
    let k = c.key_words.ensures.value in
    let s = c.selector_words.ensures.value c.requires in
    let r = c.row_words.ensures.value in
    let g = c.gate_words.ensures.value in
    let t = c.max.ensures ∙ ap (λ (m : ℕ). max (length c.args.registers.now) m) c.reach.ensures in
    let a = c.check_lengths.ensures.answer in
    record {
      answer = cc (a, d, w, k, s, r, g, t);
      fits = λ e. let h = c.check_lengths.ensures.fits e in let m = h.1.1.1.0 ∙ t in record {
        start_long = h.0 ∙ k;
        selectors_long = h.1.0 ∙ s;
        rows_long = h.1.1.0 ∙ r;
        x_in = x_within n c.args.x c.args.y c.args.z (length c.args.registers.now) m;
        y_in = y_within n c.args.x c.args.y c.args.z (length c.args.registers.now) m;
        z_in = z_within n c.args.x c.args.y c.args.z (length c.args.registers.now) m;
        small_long = h.1.1.1.1.0 ∙ w;
        work_long = h.1.1.1.1.1.0 ∙ g;
        scratch_long = h.1.1.1.1.1.1.0 ∙ d;
      };
    }
