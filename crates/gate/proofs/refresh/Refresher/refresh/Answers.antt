use Rattle.std.proofs.Common.{ℕ, ◌*◌, List, sym, ap, ◌∙◌, subst}
use Rattle.gate.specs.Keys.{start_of, selectors_of}
use Rattle.gate.specs.Gates.{settled_of, GateHolds}
use Rattle.gate.proofs.Holding.{gate_holds, gate_from}
use Rattle.gate.proofs.KeyRows.{read_long, read_polys}
use Rattle.gate.proofs.refresh.Refresher.refresh.Goals as goal

pub returns : goal.returns
returns g c =
    let set = c.args.self.now.set.now in
    let n = c.args.self.now.set.now.within.numbers in
    let many : ℕ = g.S.Sweep.count c.args.self.now.set.now.within * n.digits in
    let start : List (List ℕ) = start_of g.K.Kernel.reads c.args.self.now.set.now c.args.self.now.keys.start.now in
    let keys : List (List ℕ) = selectors_of g.K.Kernel.reads g.S.Sweep.count c.args.self.now.set.now c.args.self.now.keys.selectors.now in
    let rows = c.args.self.now.keys.rows.now in
    let e = c.settle.ensures ∙ ap (λ (acc : List ℕ). settled_of n rows acc) c.rotate-swept.ensures in
    record {
      words = e;
      gate = λ l xs ys h. let w = e ∙ gate_from g.S.Sweep.defined n l start keys rows xs ys c.args.combined.now h in (
        w,
        subst (λ (r : List ℕ). GateHolds g.S.Sweep.noise g.S.Sweep.count g.S.Sweep.message set l start keys rows xs ys r) (sym w)
            (gate_holds g.S.Sweep.defined g.S.Sweep.noise g.S.Sweep.count g.S.Sweep.message g.met.S.Sweep.means set l start keys rows xs ys
            (read_long (g.K.Kernel.reads set.ring) n.degree many c.args.self.now.keys.selectors.now)
            (read_polys g.K.Kernel.reads g.K.Kernel.form g.met.K.Kernel.forms set many c.args.self.now.keys.selectors.now)),
      );
    }
