-- Constant polynomials as words, and the messages of selectors.
use Rattle.std.proofs.Common.{◌≡◌, ℕ, zero, suc, ◌<◌, List, length, get_or, set, replicate, ℤ, ◌*ℤ◌, sym, ap, ◌∙◌, mod-eq_of_lt, arith, length-set}
use lib.IntN.{*ℤ-zero, *ℤ-one}
use lib.ListN.{length-replicate}
use Rattle.std.proofs.lemmas.List.{get_or-set_same, get_or-set_other, get_or-replicate}
use Rattle.algebra.specs.Polys.{one, scale}
use Rattle.algebra.specs.Words.{word_of}
use Rattle.set.specs.declared.numbers.Numbers.{Numbers}
use Rattle.sweeps.specs.Steps.{constant}
use Rattle.sweeps.proofs.Filled.{words_fill}

-- the word of z, and zeros
pub constant_is : (n : Numbers) (z : ℤ) (xs : List ℕ) (y : ℕ) → 0 < n.degree → 0 < n.modulus → xs ≡ replicate n.degree 0 → y ≡ word_of n.modulus z
    → set xs 0 y ≡ constant n z
unfolding constant lib.IntN.one
constant_is n z xs y some q0 e f =
    words_fill n.degree n.modulus (scale z one) (set xs 0 y) (length-set xs 0 y ∙ long) at
  where
    long : length xs ≡ n.degree
    long = ap length e ∙ length-replicate n.degree 0

    at : (k : ℕ) → k < n.degree → get_or (set xs 0 y) k 0 ≡ word_of n.modulus (z *ℤ one k)
    at zero l = get_or-set_same xs 0 y 0 (omega (arith, long)) ∙ f ∙ ap (λ (w : ℤ). word_of n.modulus w) (sym (*ℤ-one z))
    at (suc k) l =
        get_or-set_other xs 0 (suc k) y 0 (λ h. omega arith)
        ∙ ap (λ (ys : List ℕ). get_or ys (suc k) 0) e ∙ get_or-replicate n.degree (suc k) 0 0 l
        ∙ sym (mod-eq_of_lt q0) ∙ ap (λ (w : ℤ). word_of n.modulus w) (sym (*ℤ-zero z))
