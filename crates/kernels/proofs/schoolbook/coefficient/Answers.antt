use Rattle.std.proofs.Common.{◌≡◌, ℕ, List, length, get_or, pos, ◌+ℤ◌, ◌*ℤ◌, sym, refl, subst, mod-lt, arith}
use Rattle.algebra.specs.Ints.{Cong, sum_z}
use Rattle.algebra.specs.Polys.{wrapped}
use Rattle.algebra.specs.Words.{coeffs}
use Rattle.kernels.specs.PlainKernelLemmas.{some}
use Rattle.kernels.proofs.Terms.{brought_cong, none_yet, one_more, all_terms}
use Rattle.kernels.proofs.schoolbook.coefficient.Goals as goal

pub loop-i-init : goal.loop-i-init
loop-i-init c = (mod-lt c.args.start (some c.args.ring.now), none_yet c.args.ring.now.modulus (some c.args.ring.now) c.args.start _)

pub loop-i-preserved : goal.loop-i-preserved
loop-i-preserved c =
    let Q : ℕ = c.args.ring.now.modulus in
    let i : ℕ = c.loop-i.i in
    let k : ℕ = c.args.k in
    let xs : List ℕ = c.args.right.now in
    let term : Cong Q (pos c.shifted.result) (wrapped (length xs) i (coeffs xs) k) =
    subst (λ (t : ℕ). Cong Q (pos t) (wrapped (length xs) i (coeffs xs) k)) (sym c.shifted.ensures) (brought_cong Q (some c.args.ring.now) xs i k) in (
      mod-lt _ (some c.args.ring.now),
      one_more Q (some c.args.ring.now) c.loop-i.sum (get_or c.args.left.now i 0) c.shifted.result i (pos c.args.start)
          (λ j. coeffs c.args.left.now j *ℤ wrapped (length xs) j (coeffs xs) k) _ refl c.loop-i.invariant.1 term,
    )

pub returns : goal.returns
returns c =
    let Q : ℕ = c.args.ring.now.modulus in
    let ys : List ℕ = c.args.left.now in
    let xs : List ℕ = c.args.right.now in
    let e : c.loop-i.i ≡ length xs = omega arith in
    all_terms Q (some c.args.ring.now) (length xs) c.loop-i.sum (pos c.args.start) (coeffs ys) (coeffs xs) c.args.k c.loop-i.invariant.0
    (subst (λ (n : ℕ). Cong Q (pos c.loop-i.sum) (pos c.args.start +ℤ sum_z n (λ j. coeffs ys j *ℤ wrapped (length xs) j (coeffs xs) c.args.k))) e
    c.loop-i.invariant.1)
