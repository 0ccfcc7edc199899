-- The rule that is answered is the least fault.
use Rattle.std.proofs.Common.{◌≡◌, ℕ, zero, suc, ◌-◌, ◌%◌, ◌^◌, ◌≤◌, Bool, true, false, cond, eqb, ltb, ◌⊎◌, Option, refl, sym, subst, inl, inr, arith, eq-eqb}
use Rattle.std.proofs.lemmas.Bool.{eqb-true}
use Rattle.std.proofs.lemmas.Bool.Decides.{nat_tests}
use Rattle.faults.specs.declared.fault.Fault.{Fault}
use Rattle.faults.specs.declared.fault.Fault.TheVariants.{Field, Root}
use Rattle.faults.specs.Least.{NoLater, Least, unless}
use Rattle.faults.proofs.Least.{least_or, least_unless, no_later_by}
use Rattle.rings.specs.Rules.{IsDegree, IsModulus, IsRoot, Wraps, WrongRing, log_of, fits_modulus, fits_root, ring_broken}

clash : (b : Bool) → b ≡ true → b ≡ false → ⊥
clash b p n = let z : ◌≡◌ {A = ℕ} 0 1 = cc in omega arith

-- ---- the tests tell the rules
pub degree_of : (N n : ℕ) → N ≡ 2 ^ n → 2 ≤ n → n ≤ 10 → ltb 0 (log_of N) ≡ true
degree_of N n e a b = rw e (at n a b)
  where
    at : (n : ℕ) → 2 ≤ n → n ≤ 10 → ltb 0 (log_of (2 ^ n)) ≡ true
    at zero a b = absurd (omega arith)
    at (suc zero) a b = absurd (omega arith)
    at (suc (suc zero)) a b = refl
    at (suc (suc (suc zero))) a b = refl
    at (suc (suc (suc (suc zero)))) a b = refl
    at (suc (suc (suc (suc (suc zero))))) a b = refl
    at (suc (suc (suc (suc (suc (suc zero)))))) a b = refl
    at (suc (suc (suc (suc (suc (suc (suc zero))))))) a b = refl
    at (suc (suc (suc (suc (suc (suc (suc (suc zero)))))))) a b = refl
    at (suc (suc (suc (suc (suc (suc (suc (suc (suc zero))))))))) a b = refl
    at (suc (suc (suc (suc (suc (suc (suc (suc (suc (suc zero)))))))))) a b = refl
    at (suc (suc (suc (suc (suc (suc (suc (suc (suc (suc (suc n))))))))))) a b = absurd (omega arith)

-- either N is 2 ^ k, or the rest of the tests tells
degree_by : (N k rest : ℕ) → 2 ≤ k → k ≤ 10 → (ltb 0 rest ≡ true → IsDegree N) → (b : Bool)
    → (b ≡ true → N ≡ 2 ^ k) → ltb 0 (cond b k rest) ≡ true → IsDegree N
degree_by N k rest a b more true at h = (k, a, b, at refl)
degree_by N k rest a b more false at h = more h

pub degree_is : (N : ℕ) → ltb 0 (log_of N) ≡ true → IsDegree N
degree_is N =
    degree_by N 2 _ (omega arith) (omega arith)
    (degree_by N 3 _ (omega arith) (omega arith)
    (degree_by N 4 _ (omega arith) (omega arith)
    (degree_by N 5 _ (omega arith) (omega arith)
    (degree_by N 6 _ (omega arith) (omega arith)
    (degree_by N 7 _ (omega arith) (omega arith)
    (degree_by N 8 _ (omega arith) (omega arith)
    (degree_by N 9 _ (omega arith) (omega arith)
    (degree_by N 10 0 (omega arith) (omega arith) (λ h. absurd (clash false h refl))
    (eqb N 1024) (eqb-true N 1024))
    (eqb N 512) (eqb-true N 512))
    (eqb N 256) (eqb-true N 256))
    (eqb N 128) (eqb-true N 128))
    (eqb N 64) (eqb-true N 64))
    (eqb N 32) (eqb-true N 32))
    (eqb N 16) (eqb-true N 16))
    (eqb N 8) (eqb-true N 8))
    (eqb N 4) (eqb-true N 4)

pub modulus_of : (Q : ℕ) → IsModulus Q → fits_modulus Q ≡ true
modulus_of Q h = let a = h.0 in let b = h.1 in let c = h.2 in grind (arith, nat_tests)

pub modulus_is : (Q : ℕ) → fits_modulus Q ≡ true → IsModulus Q
modulus_is Q h = (grind (arith, nat_tests), grind (arith, nat_tests), grind (arith, nat_tests))

pub root_of : (Q ψ : ℕ) → IsRoot Q ψ → fits_root Q ψ ≡ true
root_of Q ψ h = let a = h.0 in let b = h.1 in grind (arith, nat_tests)

pub root_is : (Q ψ : ℕ) → fits_root Q ψ ≡ true → IsRoot Q ψ
root_is Q ψ h = (grind (arith, nat_tests), grind (arith, nat_tests))

-- ---- the rules in their order
one_rule : (b : Bool) (f : Fault) (P : Type 0) → (P → b ≡ true) → (b ≡ true → P)
    → Least (λ g. (g ≡ f) × (P → ⊥)) (unless b f)
one_rule b f P to from = least_unless b f (P → ⊥) (λ n p. clash b (to p) n) (λ no-rule e. no-rule (from e))

pub ring_least : (N Q ψ : ℕ) → Least (WrongRing N Q ψ) (ring_broken N Q ψ)
ring_least N Q ψ =
    let W0 : Fault → Type 0 = λ g. (g ≡ Field 0) × (IsDegree N → ⊥) in
    let W1 : Fault → Type 0 = λ g. (g ≡ Field 3) × (IsModulus Q → ⊥) in
    let W2 : Fault → Type 0 = λ g. (g ≡ Field 4) × (IsRoot Q ψ → ⊥) in
    let W3 : Fault → Type 0 = λ g. (g ≡ Root) × (Wraps N Q ψ → ⊥) in
    let r0 = one_rule (ltb 0 (log_of N)) (Field 0) (IsDegree N) (λ h. degree_of N h.0 h.3 h.1 h.2) (degree_is N) in
    let r1 = one_rule (fits_modulus Q) (Field 3) (IsModulus Q) (modulus_of Q) (modulus_is Q) in
    let r2 = one_rule (fits_root Q ψ) (Field 4) (IsRoot Q ψ) (root_of Q ψ) (root_is Q ψ) in
    let wraps = eqb (ψ ^ N % Q) (Q - 1) in
    let r3 = one_rule wraps Root (Wraps N Q ψ) (eq-eqb (ψ ^ N % Q) (Q - 1)) (eqb-true (ψ ^ N % Q) (Q - 1)) in
    let last : (f g : Fault) → W2 f → W3 g → NoLater f g =
    λ f g w v. no_later_by f g (Field 4) Root w.0 v.0 (inl (omega arith)) in
    let next : (f g : Fault) → W1 f → W2 g ⊎ W3 g → NoLater f g =
    λ f g w v. elim v [
      | inl x ↦ no_later_by f g (Field 3) (Field 4) w.0 x.0 (inr (refl, inl (omega arith)))
      | inr y ↦ no_later_by f g (Field 3) Root w.0 y.0 (inl (omega arith))
    ] in
    let first : (f g : Fault) → W0 f → W1 g ⊎ (W2 g ⊎ W3 g) → NoLater f g =
    λ f g w v. elim v [
      | inl x ↦ no_later_by f g (Field 0) (Field 3) w.0 x.0 (inr (refl, inl (omega arith)))
      | inr z ↦ elim z [
        | inl x ↦ no_later_by f g (Field 0) (Field 4) w.0 x.0 (inr (refl, inl (omega arith)))
        | inr y ↦ no_later_by f g (Field 0) Root w.0 y.0 (inl (omega arith))
      ]
    ] in
    let third = least_or W2 W3 _ _ r2 r3 last in
    let second = least_or W1 (λ g. W2 g ⊎ W3 g) _ _ r1 third next in
    least_or W0 (λ g. W1 g ⊎ (W2 g ⊎ W3 g)) _ _ r0 second first

-- the same of an answer that is the rule broken first
pub ring_answer : (N Q ψ : ℕ) (a : Option Fault) → a ≡ ring_broken N Q ψ → Least (WrongRing N Q ψ) a
ring_answer N Q ψ a e = subst (λ (b : Option Fault). Least (WrongRing N Q ψ) b) (sym e) (ring_least N Q ψ)
