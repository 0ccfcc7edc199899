use Rattle.std.proofs.Common.{◌≡◌, ◌+◌, ◌*◌, ◌≤◌, length, drop}
use Rattle.std.specs.Iterator.Adapters.{zip_first, zip_second}
use Rattle.std.specs.Slice.Iter.{chunks_exact_rest, chunks_exact_size}
use Rattle.algebra.specs.Keys.{taken}
use Rattle.algebra.specs.Words.{coeffs, words}
use Rattle.sweeps.specs.Forms.{row_of}
use Rattle.sweeps.proofs.products.fold_rows.Given as goal

abbrev pub invariant-loop-row : goal.invariant-loop-row
invariant-loop-row g l =
    let r = l.ring in
    let i = length l.yielded in
    let left = zip_first l.row-iterator in
    let right = zip_second l.row-iterator in
    record {
      can_next : (goal.iterator-loop-row g).can_next l.row-iterator;
      is_finite : (goal.iterator-loop-row g).is_finite l.row-iterator;
      size : chunks_exact_size left ≡ r.degree;
      size_key : chunks_exact_size right ≡ r.degree;
      within : i * r.degree ≤ length l.rows;
      rest : chunks_exact_rest left ≡ drop (i * r.degree) l.rows;
      rest_key : chunks_exact_rest right ≡ drop ((l.first + i) * r.degree) l.keys;
      value : g.K.Kernel.reads r l.sum
          ≡ words r.degree r.modulus (taken r.degree i
          (λ i. coeffs (g.K.Kernel.reads r (row_of r.degree l.rows i)))
          (λ i. coeffs (g.K.Kernel.reads r (row_of r.degree l.keys (l.first + i)))));
    }
