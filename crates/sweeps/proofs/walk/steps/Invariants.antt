use Rattle.std.proofs.Common.{◌≡◌, ◌*◌, ◌≤◌, length, drop}
use Rattle.std.specs.Iterator.Adapters.{enumerate_source, enumerate_count}
use Rattle.std.specs.Slice.Iter.{chunks_exact_rest, chunks_exact_size}
use Rattle.kernels.specs.Polynomials.{InRing}
use Rattle.sweeps.specs.Forms.{read_rows}
use Rattle.sweeps.proofs.walk.steps.Given as goal

abbrev pub invariant-loop-i : goal.invariant-loop-i
invariant-loop-i g l =
    let w = l.set.within in
    let n = w.numbers in
    let i = length l.yielded in
    let part = g.S.Step.EXPONENTS in
    let left = enumerate_source l.i-iterator in
    record {
      can_next : (goal.iterator-loop-i g).can_next l.i-iterator;
      is_finite : (goal.iterator-loop-i g).is_finite l.i-iterator;
      count : enumerate_count l.i-iterator ≡ i;
      size : chunks_exact_size left ≡ part;
      within : i * part ≤ length l.exponents;
      rest : chunks_exact_rest left ≡ drop (i * part) l.exponents;
      poly : InRing l.set.ring l.acc;
      value : l.acc ≡ g.S.Step.walked n l.exponents (read_rows (g.K.Kernel.reads l.set.ring) n.degree (g.S.Step.count w * n.digits) l.keys) i l.initial.acc;
    }
