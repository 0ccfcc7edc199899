-- A kernel's calls on lists of N words are not refused.
use Rattle.std.proofs.Common.{◌≡◌, ℕ, ◌<◌, List, [], ◌∷◌, get_or, replicate, pos, Ok, Result, sym, refl, ap, ◌∙◌, subst, arith, eq-eqb}
use Rattle.std.proofs.lemmas.List.{get_or-replicate}
use Rattle.faults.specs.declared.fault.Fault.{Fault}
use Rattle.rings.specs.declared.ring.Ring.{Ring}
use Rattle.set.specs.declared.checked.Set.{Set}
use Rattle.algebra.specs.Polys.{Poly}
use Rattle.algebra.specs.Words.{coeffs, words}
use Rattle.algebra.proofs.Words.{words_long, words_below, fused_long, fused_below}
use Rattle.kernels.specs.Lengths.{answer_to, after}
use Rattle.kernels.specs.Polynomials.{InRing, poly_of, fused_in}
use Rattle.kernels.specs.Reading.{OneForm, folded}
use Rattle.kernels.specs.Reduced.{reduced_same}
use Rattle.sweeps.proofs.Filled.{words_each}

-- two lists, and three
two_right : (r : Ring) (a b : ℕ) → a ≡ r.degree → b ≡ r.degree → answer_to r (a ∷ b ∷ []) ≡ Ok tt
two_right r a b p q = rw (eq-eqb a r.degree p, eq-eqb b r.degree q)

three_right : (r : Ring) (a b c : ℕ) → a ≡ r.degree → b ≡ r.degree → c ≡ r.degree → answer_to r (a ∷ b ∷ c ∷ []) ≡ Ok tt
three_right r a b c p q s = rw (eq-eqb a r.degree p, eq-eqb b r.degree q, eq-eqb c r.degree s)

made_of : (x : Result (Unit {0}) Fault) (now made old : List ℕ) → x ≡ Ok tt → now ≡ after x made old → now ≡ made
made_of x now made old e h = rw e at h

pub after_two : (r : Ring) (x : Result (Unit {0}) Fault) (a b : ℕ) (now made old : List ℕ) → x ≡ answer_to r (a ∷ b ∷ [])
    → a ≡ r.degree → b ≡ r.degree → now ≡ after x made old → now ≡ made
after_two r x a b now made old e p q h = made_of x now made old (e ∙ two_right r a b p q) h

pub after_three : (r : Ring) (x : Result (Unit {0}) Fault) (a b c : ℕ) (now made old : List ℕ) → x ≡ answer_to r (a ∷ b ∷ c ∷ [])
    → a ≡ r.degree → b ≡ r.degree → c ≡ r.degree → now ≡ after x made old → now ≡ made
after_three r x a b c now made old e p q s h = made_of x now made old (e ∙ three_right r a b c p q s) h

-- words of a polynomial, and their remainders
pub modulus_some : (r : Ring) → 0 < r.modulus
modulus_some r = omega (arith, r.limits.1)

pub words_in_lem : (r : Ring) (p : Poly) → InRing r (words r.degree r.modulus p)
words_in_lem r p = (
  words_long r.degree r.modulus p,
  λ k l. words_below r.degree r.modulus p (modulus_some r) k (omega (arith, words_long r.degree r.modulus p)),
)

-- a list that is the words of a polynomial, of this ring or an equal one
pub words_are : (s r : Ring) (p : Poly) (xs : List ℕ) → r ≡ s → xs ≡ words r.degree r.modulus p → InRing s xs
words_are s r p xs e h =
    subst (λ (t : Ring). InRing t xs) e (subst (λ (ys : List ℕ). InRing r ys) (sym h) (words_in_lem r p))

pub words_set : (s : Set) (p : Poly) (xs : List ℕ) → xs ≡ words s.within.numbers.degree s.within.numbers.modulus p → InRing s.ring xs
words_set s p xs h =
    words_are s.ring s.ring p xs refl
    (h ∙ ap (λ (N : ℕ). words N s.within.numbers.modulus p) (sym s.same.0) ∙ ap (λ (Q : ℕ). words s.ring.degree Q p) (sym s.same.1))

pub fused_in_lem : (r : Ring) (c a b : List ℕ) → InRing r (fused_in r c a b)
fused_in_lem r c a b = (
  fused_long r.degree r.modulus c a b,
  λ k l. fused_below r.degree r.modulus c a b (modulus_some r) k (omega (arith, fused_long r.degree r.modulus c a b)),
)

pub poly_words : (r : Ring) (p : Poly) → poly_of r (words r.degree r.modulus p) ≡ words r.degree r.modulus p
poly_words r p = sym (reduced_same r.degree r.modulus (words r.degree r.modulus p) (words_in_lem r p))

pub poly_zeros : (r : Ring) (xs : List ℕ) → xs ≡ replicate r.degree 0 → poly_of r xs ≡ words r.degree r.modulus (λ k. pos 0)
poly_zeros r xs e =
    words_each r.degree r.modulus (coeffs xs) (λ k. pos 0)
    (λ k l. ap (λ (ys : List ℕ). pos (get_or ys k 0)) e ∙ ap pos (get_or-replicate r.degree k 0 0 l))

-- what a turned polynomial reads as, and a folded one
module _ {reads form : Ring → List ℕ → List ℕ} (one : OneForm reads form) (r : Ring) where
  pub reads_turned : (p : Poly) (w : List ℕ) → w ≡ form r (words r.degree r.modulus p) → reads r w ≡ words r.degree r.modulus p
  reads_turned p w e = ap (reads r) e ∙ one.back r (words r.degree r.modulus p) (words_in_lem r p)

  pub reads_folded : (c a b w : List ℕ) → w ≡ folded reads form r c a b → reads r w ≡ fused_in r (reads r c) (reads r a) (reads r b)
  reads_folded c a b w e = ap (reads r) e ∙ one.back r (fused_in r (reads r c) (reads r a) (reads r b)) (fused_in_lem r (reads r c) (reads r a) (reads r b))
