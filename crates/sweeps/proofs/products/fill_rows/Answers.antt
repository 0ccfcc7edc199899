use Rattle.std.proofs.Common.{◌≡◌, ℕ, ◌+◌, ◌-◌, ◌*◌, ◌^◌, ◌≤◌, List, length, get_or, ap, ◌∙◌, arith, below_more}
use Rattle.algebra.specs.Digits.{digit}
use Rattle.algebra.specs.Polys.{Poly}
use Rattle.algebra.specs.Words.{words}
use Rattle.sweeps.specs.Forms.{row_of}
use Rattle.sweeps.specs.Held.{under}
use Rattle.sweeps.proofs.Filled.{words_each}
use Rattle.sweeps.proofs.Calls.{words_in_lem}
use Rattle.sweeps.proofs.Rows.{row_ends, row_same, row_below}
use Rattle.sweeps.proofs.products.fill_rows.Goals as goal

pub fill_row-requires : goal.fill_row-requires
fill_row-requires g c =
    let h = row_ends c.loop-i.i c.args.ring.now.degree c.args.gadget.now.digits (omega arith) in
    record {
      same = c.requires.same;
      place = omega arith;
      rows = omega (arith, h, c.requires.rows);
      rest = omega (arith, c.requires.rest);
      scratch = omega (arith, c.requires.scratch);
      held = c.loop-i.invariant.2;
    }

pub loop-i-preserved : goal.loop-i-preserved
loop-i-preserved g c =
    let r = c.args.ring.now in
    let B = 2 ^ c.args.gadget.now.width in
    let d = c.args.gadget.now.digits in
    let i = c.loop-i.i in
    let rows = c.loop-i.rows in
    let form = g.K.Kernel.form in
    let ends : i * r.degree + r.degree ≤ length rows = omega (arith, row_ends i r.degree d (omega arith), c.requires.rows) in
    let p : Poly = (λ k. digit B (d - i) (under (get_or c.loop-i.rest k 0)) 0) in
    let q : Poly = (λ k. digit B d (under (get_or c.args.rest.now k 0)) i) in
    let same : words r.degree r.modulus p ≡ words r.degree r.modulus q =
    words_each r.degree r.modulus p q (λ k l.
    c.loop-i.invariant.1 k 0 l (omega arith)
    ∙ ap (λ (n : ℕ). digit B d (under (get_or c.args.rest.now k 0)) n) {x = i + 0} {y = i} (omega arith)) in
    let new = form r (words r.degree r.modulus p) in
    let long : length new ≡ r.degree = (g.met.K.Kernel.forms.below r (words r.degree r.modulus p) (words_in_lem r p)).0 in
    let wrote = c.fill_row.ensures.rows in (
      below_more _ _
          (λ j l. ap (λ (w : List ℕ). row_of r.degree w j) wrote ∙ row_below r.degree i j rows new l ends ∙ c.loop-i.invariant.0 j l)
          (ap (λ (w : List ℕ). row_of r.degree w i) wrote ∙ row_same r.degree i rows new ends long ∙ ap (form r) same),
      (λ k j l m.
          ap (λ (n : ℕ). digit B n (under (get_or c.fill_row.new.rest k 0)) j) {x = d - (i + 1)} {y = d - i - 1} (omega arith)
          ∙ c.fill_row.ensures.rest k j (omega (arith, c.requires.rest)) (omega arith)
          ∙ c.loop-i.invariant.1 k (j + 1) l (omega arith)
          ∙ ap (λ (n : ℕ). digit B d (under (get_or c.args.rest.now k 0)) n) {x = i + (j + 1)} {y = i + 1 + j} (omega arith)),
      c.fill_row.ensures.held,
    )
