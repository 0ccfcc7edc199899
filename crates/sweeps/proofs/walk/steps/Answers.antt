use Rattle.std.proofs.Common.{◌≡◌, ℕ, ◌+◌, ◌*◌, List, [], ◌∷◌, ◌++◌, length, take, drop, sym, ap, ◌∙◌, arith, rules}
use Rattle.std.proofs.lemmas.List.{length-append, length-drop}
use Rattle.sweeps.specs.Forms.{read_rows}
use Rattle.sweeps.proofs.Rows.{row_ends}
use Rattle.sweeps.proofs.Walks.{key_ends, part_is, part_left, part_within, round_below, round_last, rounds_few}
use Rattle.sweeps.proofs.walk.steps.Goals as goal

pub step-requires : goal.step-requires
step-requires g c =
    let h = c.in-Some.ensures.steps in
    let v = c.loop-i.invariant in
    let w = c.args.set.now.within in
    let n = w.numbers in
    let p = g.met.S.Step.parts w in
    let k = length c.loop-i.yielded in
    let size = h.0.1.1 ∙ v.size in
    let ends = part_within g.S.Step.EXPONENTS k c.args.exponents.now _ _ _ p.0 v.rest h.0.1.0 size in
    let below = round_below g.S.Step.EXPONENTS (g.S.Step.rounds w) k p.0 (omega (arith, ends, c.requires.exponents, p.1)) in
    let here : c.in-Some.i ≡ k = h.1 ∙ v.count in
    record {
      acc = v.poly;
      exponents = size;
      keys = omega (arith, key_ends (g.S.Step.last c.in-Some.i) n.digits n.degree (g.S.Step.count w) (p.3 c.in-Some.i (omega (arith, below, here))), c.requires.keys);
      work = omega (arith, c.requires.work);
      scratch = omega (arith, c.requires.scratch);
      few = omega (arith, below, here, rounds_few g.S.Step.EXPONENTS (g.S.Step.rounds w) p.0, p.1, w.lengths);
    }

pub loop-i-preserved : goal.loop-i-preserved
loop-i-preserved g c =
    let h = c.in-Some.ensures.steps in
    let v = c.loop-i.invariant in
    let w = c.args.set.now.within in
    let n = w.numbers in
    let p = g.met.S.Step.parts w in
    let k = length c.loop-i.yielded in
    let part = g.S.Step.EXPONENTS in
    let es = c.args.exponents.now in
    let total = g.S.Step.count w * n.digits in
    let polys : List (List ℕ) = read_rows (g.K.Kernel.reads c.args.set.now.ring) n.degree total c.args.keys.now in
    let size = h.0.1.1 ∙ v.size in
    let ends = part_within part k es _ _ _ p.0 v.rest h.0.1.0 size in
    let below = round_below part (g.S.Step.rounds w) k p.0 (omega (arith, ends, c.requires.exponents, p.1)) in
    let here : c.in-Some.i ≡ k = h.1 ∙ v.count in
    let more : k + 1 ≡ length (c.loop-i.yielded ++ ((c.in-Some.i, c.in-Some.taken) ∷ [])) =
    sym (length-append c.loop-i.yielded ((c.in-Some.i, c.in-Some.taken) ∷ [])) in
    record {
      can_next = search rules;
      is_finite = search rules;
      count = h.2 ∙ ap (λ (x : ℕ). x + 1) v.count ∙ more;
      size = h.0.0 ∙ v.size;
      within = omega (arith, ends, ap (λ (x : ℕ). x * part) more);
      rest = part_left part k es _ _ _ p.0 v.rest h.0.1.0 size ∙ ap (λ (x : ℕ). drop (x * part) es) more;
      poly = c.step.ensures.poly;
      value =
          c.step.ensures.value total (row_ends (g.S.Step.last c.in-Some.i) n.digits (g.S.Step.count w) (p.3 c.in-Some.i (omega (arith, below, here))))
          ∙ ap (λ (x : ℕ). g.S.Step.stepped n polys x c.in-Some.taken.now c.loop-i.acc) here
          ∙ ap (λ (xs : List ℕ). g.S.Step.stepped n polys k xs c.loop-i.acc) (part_is part k es _ _ _ p.0 v.rest h.0.1.0 size)
          ∙ ap (λ (xs : List ℕ). g.S.Step.stepped n polys k (take part (drop (k * part) es)) xs) v.value
          ∙ g.met.S.Step.goes n es polys k c.args.acc.now
          ∙ ap (λ (x : ℕ). g.S.Step.walked n es polys x c.args.acc.now) more;
    }

pub returns : goal.returns
returns g c =
    let h = c.in-None.ensures.steps in
    let v = c.loop-i.invariant in
    let w = c.args.set.now.within in
    let n = w.numbers in
    let p = g.met.S.Step.parts w in
    let part = g.S.Step.EXPONENTS in
    let k = length c.loop-i.yielded in
    let es = c.args.exponents.now in
    let polys : List (List ℕ) = read_rows (g.K.Kernel.reads c.args.set.now.ring) n.degree (g.S.Step.count w * n.digits) c.args.keys.now in
    let last = round_last part (g.S.Step.rounds w) k p.0 (omega (arith, v.within, c.requires.exponents, p.1))
    (omega (arith, h.0.1.0, v.size, ap length v.rest, length-drop (k * part) es, c.requires.exponents, p.1)) in
    v.value ∙ ap (λ (x : ℕ). g.S.Step.walked n es polys x c.args.acc.now) last ∙ g.met.S.Step.ends w es polys c.args.acc.now
