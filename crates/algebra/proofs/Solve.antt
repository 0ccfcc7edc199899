-- A solver for equations of commutative rings, over the integers: both sides are brought to a normal form, which is compared.
-- Of integers a, b, c an equation with sums, products, signs and numerals, nested less than 9 deep, is shown by
--   ring (a ∷ b ∷ c ∷ []) (search forms depth 9) (search forms depth 9) refl
use Rattle.std.proofs.Common.{◌≡◌, ℕ, zero, suc, Bool, true, false, cond, eqb, ltb, List, [], ◌∷◌, get_or, ℤ, pos, negsuc, ◌+ℤ◌, ◌*ℤ◌, neg_ℤ, sym, refl, ap, ◌∙◌, ap₂, arith, eqb-true}
use borrow.Author.Differences.{ints}
use lib.IntN.{zero-*ℤ, *ℤ-zero}
use Rattle.algebra.proofs.Ring.{expand, *ℤ-left, *ℤ-assoc, distribʳ}

-- a monomial is the list of its variables, by rising number
abbrev pub equal : List ℕ → List ℕ → Bool
equal [] [] = true
equal [] (y ∷ ys) = false
equal (x ∷ xs) [] = false
equal (x ∷ xs) (y ∷ ys) = cond (eqb x y) (equal xs ys) false

abbrev pub before : List ℕ → List ℕ → Bool
before [] [] = false
before [] (y ∷ ys) = true
before (x ∷ xs) [] = false
before (x ∷ xs) (y ∷ ys) = cond (eqb x y) (before xs ys) (ltb x y)

abbrev pub insert : ℕ → List ℕ → List ℕ
insert i [] = i ∷ []
insert i (j ∷ m) = cond (ltb j i) (j ∷ insert i m) (i ∷ j ∷ m)

abbrev pub merge : List ℕ → List ℕ → List ℕ
merge [] n = n
merge (i ∷ m) n = insert i (merge m n)

both : (b c : Bool) → cond b c false ≡ true → (b ≡ true) × (c ≡ true)
both true c e = (refl, e)
both false c e = (e, cc)

equal_is : (m n : List ℕ) → equal m n ≡ true → m ≡ n
equal_is [] [] e = refl
equal_is [] (y ∷ ys) e = cc
equal_is (x ∷ xs) [] e = cc
equal_is (x ∷ xs) (y ∷ ys) e =
    let h = both (eqb x y) (equal xs ys) e in ap₂ ◌∷◌ (eqb-true x y h.0) (equal_is xs ys h.1)

-- a normal form is a sum of terms, each a coefficient that is not 0 and a monomial, by rising monomial
pub data Norm : Type 0 where
  end : Norm
  term : ℤ → List ℕ → Norm → Norm

abbrev pub none : ℤ → Bool
none (pos zero) = true
none (pos (suc n)) = false
none (negsuc n) = false

none_is : (c : ℤ) → none c ≡ true → c ≡ pos 0
none_is (pos zero) e = refl
none_is (pos (suc n)) e = cc
none_is (negsuc n) e = cc

abbrev pub keep : ℤ → List ℕ → Norm → Norm
keep c m p = cond (none c) p (term c m p)

abbrev pub put : ℤ → List ℕ → Norm → Norm
put c m end = keep c m end
put c m (term d n p) =
    let r = put c m p in cond (equal m n) (keep (c +ℤ d) n p) (cond (before m n) (term c m (term d n p)) (term d n r))

abbrev pub plus : Norm → Norm → Norm
plus end q = q
plus (term c m p) q = put c m (plus p q)

abbrev pub multiply : ℤ → List ℕ → Norm → Norm
multiply c m end = end
multiply c m (term d n p) = put (c *ℤ d) (merge m n) (multiply c m p)

abbrev pub times : Norm → Norm → Norm
times end q = end
times (term c m p) q = plus (multiply c m q) (times p q)

-- an expression over the integers ρ, with its value
pub data Form (ρ : List ℤ) : ℤ → Type 0 where
  var : (i : ℕ) → Form ρ (get_or ρ i (pos 0))
  lit : (z : ℤ) → Form ρ z
  add : {a b : ℤ} → Form ρ a → Form ρ b → Form ρ (a +ℤ b)
  mul : {a b : ℤ} → Form ρ a → Form ρ b → Form ρ (a *ℤ b)
  neg : {a : ℤ} → Form ρ a → Form ρ (neg_ℤ a)

module _ (ρ : List ℤ) where
  abbrev pub at : ℕ → ℤ
  at i = get_or ρ i (pos 0)

  abbrev pub product : List ℕ → ℤ
  product [] = pos 1
  product (i ∷ m) = get_or ρ i (pos 0) *ℤ product m

  abbrev pub value : Norm → ℤ
  value end = pos 0
  value (term c m p) = c *ℤ product m +ℤ value p

  abbrev pub norm : {z : ℤ} → Form ρ z → Norm
  norm (var i) = term (pos 1) (i ∷ []) end
  norm (lit z) = keep z [] end
  norm (add f g) = plus (norm f) (norm g)
  norm (mul f g) = times (norm f) (norm g)
  norm (neg f) = multiply (negsuc 0) [] (norm f)

  -- each step keeps the value
  cond_value : (b : Bool) (x y : Norm) (v : ℤ) → (b ≡ true → value x ≡ v) → (b ≡ false → value y ≡ v) → value (cond b x y) ≡ v
  cond_value true x y v f g = f refl
  cond_value false x y v f g = g refl

  cond_product : (b : Bool) (x y : List ℕ) (v : ℤ) → product x ≡ v → product y ≡ v → product (cond b x y) ≡ v
  cond_product true x y v f g = f
  cond_product false x y v f g = g

  insert_product : (i : ℕ) (m : List ℕ) → product (insert i m) ≡ at i *ℤ product m
  insert_product i [] = refl
  insert_product i (j ∷ m) = cond_product (ltb j i) (j ∷ insert i m) (i ∷ j ∷ m) _
      (ap (λ (x : ℤ). at j *ℤ x) (insert_product i m) ∙ *ℤ-left (at j) (at i) (product m)) refl

  merge_product : (m n : List ℕ) → product (merge m n) ≡ product m *ℤ product n
  merge_product [] n = omega (arith, ints)
  merge_product (i ∷ m) n =
      insert_product i (merge m n)
      ∙ ap (λ (x : ℤ). at i *ℤ x) (merge_product m n)
      ∙ sym (*ℤ-assoc (at i) (product m) (product n))

  keep_value : (c : ℤ) (m : List ℕ) (p : Norm) → value (keep c m p) ≡ c *ℤ product m +ℤ value p
  keep_value c m p = cond_value (none c) p (term c m p) _ (λ e. rw (none_is c e) (omega (arith, ints))) (λ e. refl)

  put_value : (c : ℤ) (m : List ℕ) (p : Norm) → value (put c m p) ≡ c *ℤ product m +ℤ value p
  put_value c m end = keep_value c m end
  put_value c m (term d n p) = cond_value (equal m n) _ _ _
      (λ e. keep_value (c +ℤ d) n p ∙ joined (equal_is m n e))
      (λ e. cond_value (before m n) (term c m (term d n p)) (term d n (put c m p)) _ (λ e. refl)
      (λ e. ap (λ (x : ℤ). d *ℤ product n +ℤ x) (put_value c m p) ∙ omega (arith, ints)))
    where
      joined : m ≡ n → (c +ℤ d) *ℤ product n +ℤ value p ≡ c *ℤ product m +ℤ (d *ℤ product n +ℤ value p)
      joined e = rw e (simp distribʳ (omega (arith, ints)))

  plus_value : (p q : Norm) → value (plus p q) ≡ value p +ℤ value q
  plus_value end q = omega (arith, ints)
  plus_value (term c m p) q =
      put_value c m (plus p q) ∙ ap (λ (x : ℤ). c *ℤ product m +ℤ x) (plus_value p q) ∙ omega (arith, ints)

  multiply_value : (c : ℤ) (m : List ℕ) (p : Norm) → value (multiply c m p) ≡ c *ℤ product m *ℤ value p
  multiply_value c m end = sym (*ℤ-zero (c *ℤ product m))
  multiply_value c m (term d n p) =
      put_value (c *ℤ d) (merge m n) (multiply c m p)
      ∙ ap₂ (λ (x y : ℤ). c *ℤ d *ℤ x +ℤ y) (merge_product m n) (multiply_value c m p)
      ∙ mix c d (product m) (product n) (value p)
    where
      mix : (c d m n p : ℤ) → c *ℤ d *ℤ (m *ℤ n) +ℤ c *ℤ m *ℤ p ≡ c *ℤ m *ℤ (d *ℤ n +ℤ p)
      mix c d m n p = simp expand (omega (arith, ints))

  times_value : (p q : Norm) → value (times p q) ≡ value p *ℤ value q
  times_value end q = sym (zero-*ℤ (value q))
  times_value (term c m p) q =
      plus_value (multiply c m q) (times p q)
      ∙ ap₂ ◌+ℤ◌ (multiply_value c m q) (times_value p q)
      ∙ sym (distribʳ (c *ℤ product m) (value p) (value q))

  norm_value : {z : ℤ} (f : Form ρ z) → value (norm f) ≡ z
  norm_value (var i) = omega (arith, ints)
  norm_value (lit z) = keep_value z [] end ∙ omega (arith, ints)
  norm_value (add f g) = plus_value (norm f) (norm g) ∙ ap₂ ◌+ℤ◌ (norm_value f) (norm_value g)
  norm_value (mul f g) = times_value (norm f) (norm g) ∙ ap₂ ◌*ℤ◌ (norm_value f) (norm_value g)
  norm_value (neg f) =
      multiply_value (negsuc 0) [] (norm f) ∙ ap (λ (x : ℤ). negsuc 0 *ℤ pos 1 *ℤ x) (norm_value f) ∙ omega (arith, ints)

  -- two expressions of one normal form are equal
  pub ring : {a b : ℤ} (f : Form ρ a) (g : Form ρ b) → norm f ≡ norm g → a ≡ b
  ring f g e = sym (norm_value f) ∙ ap value e ∙ norm_value g

-- for `search`, which writes the expression of a goal: up to ten variables, and numerals
abbrev pub v0 : {a : ℤ} {ρ : List ℤ} → Form (a ∷ ρ) a
v0 = var 0

abbrev pub v1 : {a b : ℤ} {ρ : List ℤ} → Form (a ∷ b ∷ ρ) b
v1 = var 1

abbrev pub v2 : {a b c : ℤ} {ρ : List ℤ} → Form (a ∷ b ∷ c ∷ ρ) c
v2 = var 2

abbrev pub v3 : {a b c d : ℤ} {ρ : List ℤ} → Form (a ∷ b ∷ c ∷ d ∷ ρ) d
v3 = var 3

abbrev pub v4 : {a b c d e : ℤ} {ρ : List ℤ} → Form (a ∷ b ∷ c ∷ d ∷ e ∷ ρ) e
v4 = var 4

abbrev pub v5 : {a b c d e f : ℤ} {ρ : List ℤ} → Form (a ∷ b ∷ c ∷ d ∷ e ∷ f ∷ ρ) f
v5 = var 5

abbrev pub v6 : {a b c d e f g : ℤ} {ρ : List ℤ} → Form (a ∷ b ∷ c ∷ d ∷ e ∷ f ∷ g ∷ ρ) g
v6 = var 6

abbrev pub v7 : {a b c d e f g h : ℤ} {ρ : List ℤ} → Form (a ∷ b ∷ c ∷ d ∷ e ∷ f ∷ g ∷ h ∷ ρ) h
v7 = var 7

abbrev pub v8 : {a b c d e f g h i : ℤ} {ρ : List ℤ} → Form (a ∷ b ∷ c ∷ d ∷ e ∷ f ∷ g ∷ h ∷ i ∷ ρ) i
v8 = var 8

abbrev pub v9 : {a b c d e f g h i j : ℤ} {ρ : List ℤ} → Form (a ∷ b ∷ c ∷ d ∷ e ∷ f ∷ g ∷ h ∷ i ∷ j ∷ ρ) j
v9 = var 9

abbrev pub num : {ρ : List ℤ} (n : ℕ) → Form ρ (pos n)
num n = lit (pos n)

abbrev pub numneg : {ρ : List ℤ} (n : ℕ) → Form ρ (negsuc n)
numneg n = lit (negsuc n)

pub ruleset forms = (v0, v1, v2, v3, v4, v5, v6, v7, v8, v9, num, numneg, add, mul, neg)
