-- A coefficient of a product, term by term.
use Rattle.std.proofs.Common.{◌≡◌, ℕ, ◌+◌, ◌-◌, ◌*◌, ◌%◌, ◌<◌, ◌≤◌, Bool, true, false, cond, ltb, List, length, get_or, ℤ, pos, ◌+ℤ◌, ◌*ℤ◌, neg_ℤ, mod-lt, add-one, arith}
use borrow.Author.Differences.{ints}
use Rattle.std.proofs.lemmas.List.FromFn.{fill_by_all}
use Rattle.algebra.specs.Ints.{sum_z, Cong}
use Rattle.algebra.specs.Polys.{Poly, wrapped, plus, mul}
use Rattle.algebra.specs.Words.{coeffs, word_of, words, fused}
use Rattle.algebra.proofs.Cong.{same, cong_sym, cong_trans, cong_add, cong_neg, cong_scale}
use Rattle.algebra.proofs.Bridge.{mod_cong, word_is}
use Rattle.algebra.proofs.Words.{fused_same}
use Rattle.kernels.specs.Polynomials.{reduced}
use Rattle.kernels.specs.Schoolbook.{brought}
use Rattle.kernels.specs.Reduced.{reduced_alike}

module _ (Q : ℕ) (q0 : 0 < Q) where
  -- the word that X^i brings is congruent to the coefficient that it brings
  pub brought_cong : (xs : List ℕ) (i k : ℕ) → Cong Q (pos (brought Q xs i k)) (wrapped (length xs) i (coeffs xs) k)
  brought_cong xs i k = by (ltb k i)
    where
      less : (a : ℕ) → Cong Q (pos (Q - a % Q)) (neg_ℤ (pos a))
      less a =
          let l = mod-lt a q0 in
          let off : Cong Q (pos (Q - a % Q)) (neg_ℤ (pos (a % Q))) = record { times = pos 1; is = omega (arith, ints) } in
          cong_trans Q off (cong_neg Q (mod_cong Q a))

      by : (b : Bool)
          → Cong Q (pos (cond b (Q - get_or xs (length xs + k - i) 0 % Q) (get_or xs (k - i) 0 % Q)))
          (cond b (neg_ℤ (coeffs xs (length xs + k - i))) (coeffs xs (k - i)))
      by true = less (get_or xs (length xs + k - i) 0)
      by false = mod_cong Q (get_or xs (k - i) 0)

  pub brought_low : (xs : List ℕ) (i k : ℕ) → brought Q xs i k ≤ Q
  brought_low xs i k = by (ltb k i)
    where
      by : (b : Bool) → cond b (Q - get_or xs (length xs + k - i) 0 % Q) (get_or xs (k - i) 0 % Q) ≤ Q
      by true = omega arith
      by false = omega (arith, mod-lt (get_or xs (k - i) 0) q0)

  -- a sum that starts at z and has i terms
  pub none_yet : (start : ℕ) (f : ℕ → ℤ) → Cong Q (pos (start % Q)) (pos start +ℤ sum_z 0 f)
  unfolding sum_z
  none_yet start f = cong_trans Q (mod_cong Q start) (same Q _ _ (omega (arith, ints)))

  pub one_more : (sum a t i : ℕ) (z : ℤ) (f : ℕ → ℤ) (g : ℤ) → f i ≡ pos a *ℤ g → Cong Q (pos sum) (z +ℤ sum_z i f)
      → Cong Q (pos t) g → Cong Q (pos ((sum + a * t) % Q)) (z +ℤ sum_z (i + 1) f)
  unfolding sum_z
  one_more sum a t i z f g e h k =
      rw (add-one, e)
      (cong_trans Q (mod_cong Q (sum + a * t)) (cong_trans Q (cong_add Q h (cong_scale Q (pos a) k)) (same Q _ _ (omega (arith, ints)))))

  pub all_terms : (N r : ℕ) (z : ℤ) (p q : Poly) (k : ℕ) → r < Q → Cong Q (pos r) (z +ℤ sum_z N (λ j. p j *ℤ wrapped N j q k))
      → r ≡ word_of Q (z +ℤ mul N p q k)
  unfolding mul
  all_terms N r z p q k l h = word_is Q r (z +ℤ sum_z N (λ j. p j *ℤ wrapped N j q k)) l h

-- the words of all coefficients
pub fused_all : (N Q : ℕ) (c a b xs : List ℕ) → length xs ≡ N
    → ((k : ℕ) → k < N → get_or xs k 0 ≡ word_of Q (pos (get_or c k 0) +ℤ mul N (coeffs a) (coeffs b) k)) → xs ≡ fused N Q c a b
unfolding fused words
fused_all N Q c a b xs e f = fill_by_all (λ k. word_of Q (plus (coeffs c) (mul N (coeffs a) (coeffs b)) k)) xs N 0 e f

-- words of Q and above count as their remainders
pub fused_reduced : (N Q : ℕ) (c a b : List ℕ) → 0 < Q
    → fused N Q c a b ≡ fused N Q (reduced N Q c) (reduced N Q a) (reduced N Q b)
fused_reduced N Q c a b q0 =
    fused_same N Q c (reduced N Q c) a (reduced N Q a) b (reduced N Q b) q0
    (λ k l. cong_sym Q (reduced_alike N Q c q0 k l)) (λ k l. cong_sym Q (reduced_alike N Q a q0 k l))
    (λ k l. cong_sym Q (reduced_alike N Q b q0 k l))
