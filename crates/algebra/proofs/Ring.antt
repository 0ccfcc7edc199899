-- Equations of the integers that hold in every commutative ring.
use Rattle.std.proofs.Common.{◌≡◌, ℕ, ◌*◌, ℤ, ◌+ℤ◌, ◌*ℤ◌, neg_ℤ, sym, ap, ◌∙◌, arith}
use borrow.Author.Differences.{ints, up, down, sum_is_lem, product_is, neg_is}
use lib.IntN.{*ℤ_comm}

-- products of sums
pub distribʳ : (a b c : ℤ) → (a +ℤ b) *ℤ c ≡ a *ℤ c +ℤ b *ℤ c
distribʳ a b c = omega (arith, ints, ap (λ (x : ℕ). x * up c) (sum_is_lem a b), ap (λ (x : ℕ). x * down c) (sum_is_lem a b))

pub distribˡ : (a b c : ℤ) → a *ℤ (b +ℤ c) ≡ a *ℤ b +ℤ a *ℤ c
distribˡ a b c = omega (arith, ints, ap (λ (x : ℕ). up a * x) (sum_is_lem b c), ap (λ (x : ℕ). down a * x) (sum_is_lem b c))

-- products of products
pub *ℤ-assoc : (a b c : ℤ) → (a *ℤ b) *ℤ c ≡ a *ℤ (b *ℤ c)
*ℤ-assoc a b c = omega (
  arith,
  ints,
  ap (λ (x : ℕ). x * up c) (product_is a b).0,
  ap (λ (x : ℕ). x * down c) (product_is a b).0,
  ap (λ (x : ℕ). x * up c) (product_is a b).1,
  ap (λ (x : ℕ). x * down c) (product_is a b).1,
  ap (λ (x : ℕ). up a * x) (product_is b c).0,
  ap (λ (x : ℕ). down a * x) (product_is b c).0,
  ap (λ (x : ℕ). up a * x) (product_is b c).1,
  ap (λ (x : ℕ). down a * x) (product_is b c).1,
)

pub *ℤ-left : (a b c : ℤ) → a *ℤ (b *ℤ c) ≡ b *ℤ (a *ℤ c)
*ℤ-left a b c = sym (*ℤ-assoc a b c) ∙ ap (λ (x : ℤ). x *ℤ c) (*ℤ_comm a b) ∙ *ℤ-assoc b a c

-- products and signs
pub negˡ : (a b : ℤ) → neg_ℤ a *ℤ b ≡ neg_ℤ (a *ℤ b)
negˡ a b = omega (
  arith,
  ints,
  ap (λ (x : ℕ). x * up b) (neg_is a).0,
  ap (λ (x : ℕ). x * down b) (neg_is a).0,
  ap (λ (x : ℕ). x * up b) (neg_is a).1,
  ap (λ (x : ℕ). x * down b) (neg_is a).1,
)

pub negʳ : (a b : ℤ) → a *ℤ neg_ℤ b ≡ neg_ℤ (a *ℤ b)
negʳ a b = *ℤ_comm a (neg_ℤ b) ∙ negˡ b a ∙ ap neg_ℤ (*ℤ_comm b a)

-- `simp expand` multiplies out and sorts the factors
pub ruleset expand = (distribʳ, distribˡ, *ℤ-assoc, *ℤ-left, *ℤ_comm, negˡ, negʳ)
