-- Sixteen numbers within their limits: the first that is outside is the least fault, and the facts that hold where none is.
use Rattle.std.proofs.Common.{◌≡◌, ℕ, ◌-◌, ◌*◌, ◌/◌, ◌%◌, ◌^◌, ◌<◌, Bool, true, false, eqb, is_some, Some, None, Option, sym, refl, ap, ◌∙◌, subst, inl, inr, arith}
use Rattle.std.proofs.lemmas.Bool.{eqb-true, eq-eqb, and_parts, and_from, both_ways}
use Rattle.faults.specs.declared.fault.Fault.{Fault}
use Rattle.faults.specs.declared.fault.Fault.TheVariants.{Field}
use Rattle.faults.specs.Least.{Least, NoLater, or_else, unless}
use Rattle.faults.proofs.Least.{row_first, row_last}
use Rattle.words.specs.Powers.{power_within, within}
use Rattle.words.specs.Moduli.{ring_modulus}
use Rattle.words.proofs.Moduli.{within_holds, power_within_parts}
use Rattle.words.proofs.Gadgets.{power_told, within_told, within_parts, ring_told, ring_parts}
use Rattle.set.specs.declared.numbers.Numbers.{Numbers}
use Rattle.set.specs.Limits.{EvenFrom, even_within, Limits, WrongLimits, sizes_broken, digits_broken, weights_broken, switch_broken, limits_broken}

-- refusals in turn
pub or_first : (a b : Option Fault) (f : Fault) → a ≡ Some f → or_else a b ≡ Some f
or_first a b f e = ap (λ (x : Option Fault). or_else x b) e

pub or_next : (a b : Option Fault) → a ≡ None → or_else a b ≡ b
or_next a b e = ap (λ (x : Option Fault). or_else x b) e

pub first_none : (a b : Option Fault) → or_else a b ≡ None → a ≡ None
first_none None b e = refl
first_none (Some f) b e = e

pub rest_none : (a b : Option Fault) → or_else a b ≡ None → b ≡ None
rest_none None b e = e
rest_none (Some f) b e = absurd (let z : ◌≡◌ {A = ℕ} 0 1 = cc in omega arith)

pub passes : (b : Bool) (f : Fault) → unless b f ≡ None → b ≡ true
passes true f e = refl
passes false f e = absurd (let z : ◌≡◌ {A = ℕ} 0 1 = cc in omega arith)

pub none_of : (o : Option Fault) → is_some o ≡ false → o ≡ None
none_of None e = refl
none_of (Some f) e = absurd (let z : ◌≡◌ {A = ℕ} 0 1 = cc in omega arith)

or_assoc : (a b c : Option Fault) → or_else (or_else a b) c ≡ or_else a (or_else b c)
or_assoc None b c = refl
or_assoc (Some f) b c = refl

-- the evenness of n
even_told : (x : ℕ) → even_within x ≡ false → EvenFrom x → ⊥
even_told x e p =
    both_ways (even_within x) e
    (and_from (eqb (x % 2) 0) (within 2 512 x) (eq-eqb (x % 2) 0 p.0) (within_holds 2 512 x p.1.0 p.1.1))

even_parts : (x : ℕ) → even_within x ≡ true → EvenFrom x
even_parts x e =
    let p = and_parts (eqb (x % 2) 0) (within 2 512 x) e in
    (eqb-true (x % 2) 0 p.0, within_parts 2 512 x p.1)

-- the sixteen rows one after the other
flat : Numbers → Option Fault
flat n =
    or_else (unless (power_within 16 1024 n.degree) (Field 0))
    (or_else (unless (even_within n.dimension) (Field 1))
    (or_else (unless (power_within 32 (2 * n.degree) n.small) (Field 2))
    (or_else (unless (ring_modulus n.modulus) (Field 3))
    (or_else (unless (within 1 (n.modulus - 1) n.root) (Field 4))
    (or_else (unless (power_within 1 65536 n.dropped) (Field 5))
    (or_else (unless (power_within 2 65536 n.base) (Field 6))
    (or_else (unless (within 1 31 n.digits) (Field 7))
    (or_else (unless (within 0 1024 n.noise) (Field 8))
    (or_else (unless (within 1 n.degree n.weight) (Field 9))
    (or_else (unless (within 0 n.dimension n.ones) (Field 10))
    (or_else (unless (power_within n.small (2 ^ 20) n.switch) (Field 11))
    (or_else (unless (power_within 2 1024 n.radix) (Field 12))
    (or_else (unless (within 1 20 n.places) (Field 13))
    (or_else (unless (within 0 1024 n.jitter) (Field 14))
    (unless (within 1 (n.small / 16 - 1) n.bound) (Field 15))))))))))))))))

two : (a b r : Option Fault) → or_else (or_else a b) r ≡ or_else a (or_else b r)
two a b r = or_assoc a b r

three : (a b c r : Option Fault) → or_else (or_else a (or_else b c)) r ≡ or_else a (or_else b (or_else c r))
three a b c r = or_assoc a (or_else b c) r ∙ ap (λ (x : Option Fault). or_else a x) (two b c r)

four : (a b c d r : Option Fault) → or_else (or_else a (or_else b (or_else c d))) r ≡ or_else a (or_else b (or_else c (or_else d r)))
four a b c d r = or_assoc a (or_else b (or_else c d)) r ∙ ap (λ (x : Option Fault). or_else a x) (three b c d r)

five : (a b c d e r : Option Fault)
    → or_else (or_else a (or_else b (or_else c (or_else d e)))) r ≡ or_else a (or_else b (or_else c (or_else d (or_else e r))))
five a b c d e r = or_assoc a (or_else b (or_else c (or_else d e))) r ∙ ap (λ (x : Option Fault). or_else a x) (four b c d e r)

in_turn : (a b c d e f g h i j k r : Option Fault)
    → or_else (or_else a (or_else b (or_else c (or_else d e)))) (or_else (or_else f (or_else g (or_else h i))) (or_else (or_else j k) r))
    ≡ or_else a (or_else b (or_else c (or_else d (or_else e (or_else f (or_else g (or_else h (or_else i (or_else j (or_else k r))))))))))
in_turn a b c d e f g h i j k r =
    ap (λ (x : Option Fault). or_else (or_else a (or_else b (or_else c (or_else d e)))) x)
    (ap (λ (x : Option Fault). or_else (or_else f (or_else g (or_else h i))) x) (two j k r) ∙ four f g h i (or_else j (or_else k r)))
    ∙ five a b c d e (or_else f (or_else g (or_else h (or_else i (or_else j (or_else k r))))))

limits_flat : (n : Numbers) → limits_broken n ≡ flat n
unfolding limits_broken flat
limits_flat n =
    in_turn
    (unless (power_within 16 1024 n.degree) (Field 0))
    (unless (even_within n.dimension) (Field 1))
    (unless (power_within 32 (2 * n.degree) n.small) (Field 2))
    (unless (ring_modulus n.modulus) (Field 3))
    (unless (within 1 (n.modulus - 1) n.root) (Field 4))
    (unless (power_within 1 65536 n.dropped) (Field 5))
    (unless (power_within 2 65536 n.base) (Field 6))
    (unless (within 1 31 n.digits) (Field 7))
    (unless (within 0 1024 n.noise) (Field 8))
    (unless (within 1 n.degree n.weight) (Field 9))
    (unless (within 0 n.dimension n.ones) (Field 10))
    (switch_broken n)

-- numbers of 32 bits, as far as the powers of two ask
pub record Short (n : Numbers) : Type 0 where
  pub degree_short : n.degree < 2 ^ 32
  pub small_short : n.small < 2 ^ 32
  pub dropped_short : n.dropped < 2 ^ 32
  pub base_short : n.base < 2 ^ 32
  pub switch_short : n.switch < 2 ^ 32
  pub radix_short : n.radix < 2 ^ 32

next : (i j : ℕ) → i < j → NoLater (Field i) (Field j)
next i j h = inr (refl, inl h)

flat_least : (n : Numbers) → Short n → Least (WrongLimits n) (flat n)
unfolding flat
flat_least n s =
    (row_first (Field 0) (Field 1) _ _ (power_within 16 1024 n.degree) _ (next 0 1 (omega arith)) (power_told 16 1024 n.degree s.degree_short) (λ p e. p (power_within_parts 16 1024 n.degree e))
    (row_first (Field 1) (Field 2) _ _ (even_within n.dimension) _ (next 1 2 (omega arith)) (even_told n.dimension) (λ p e. p (even_parts n.dimension e))
    (row_first (Field 2) (Field 3) _ _ (power_within 32 (2 * n.degree) n.small) _ (next 2 3 (omega arith)) (power_told 32 (2 * n.degree) n.small s.small_short) (λ p e. p (power_within_parts 32 (2 * n.degree) n.small e))
    (row_first (Field 3) (Field 4) _ _ (ring_modulus n.modulus) _ (next 3 4 (omega arith)) (ring_told n.modulus) (λ p e. p (ring_parts n.modulus e))
    (row_first (Field 4) (Field 5) _ _ (within 1 (n.modulus - 1) n.root) _ (next 4 5 (omega arith)) (within_told 1 (n.modulus - 1) n.root) (λ p e. p (within_parts 1 (n.modulus - 1) n.root e))
    (row_first (Field 5) (Field 6) _ _ (power_within 1 65536 n.dropped) _ (next 5 6 (omega arith)) (power_told 1 65536 n.dropped s.dropped_short) (λ p e. p (power_within_parts 1 65536 n.dropped e))
    (row_first (Field 6) (Field 7) _ _ (power_within 2 65536 n.base) _ (next 6 7 (omega arith)) (power_told 2 65536 n.base s.base_short) (λ p e. p (power_within_parts 2 65536 n.base e))
    (row_first (Field 7) (Field 8) _ _ (within 1 31 n.digits) _ (next 7 8 (omega arith)) (within_told 1 31 n.digits) (λ p e. p (within_parts 1 31 n.digits e))
    (row_first (Field 8) (Field 9) _ _ (within 0 1024 n.noise) _ (next 8 9 (omega arith)) (within_told 0 1024 n.noise) (λ p e. p (within_parts 0 1024 n.noise e))
    (row_first (Field 9) (Field 10) _ _ (within 1 n.degree n.weight) _ (next 9 10 (omega arith)) (within_told 1 n.degree n.weight) (λ p e. p (within_parts 1 n.degree n.weight e))
    (row_first (Field 10) (Field 11) _ _ (within 0 n.dimension n.ones) _ (next 10 11 (omega arith)) (within_told 0 n.dimension n.ones) (λ p e. p (within_parts 0 n.dimension n.ones e))
    (row_first (Field 11) (Field 12) _ _ (power_within n.small (2 ^ 20) n.switch) _ (next 11 12 (omega arith)) (power_told n.small (2 ^ 20) n.switch s.switch_short) (λ p e. p (power_within_parts n.small (2 ^ 20) n.switch e))
    (row_first (Field 12) (Field 13) _ _ (power_within 2 1024 n.radix) _ (next 12 13 (omega arith)) (power_told 2 1024 n.radix s.radix_short) (λ p e. p (power_within_parts 2 1024 n.radix e))
    (row_first (Field 13) (Field 14) _ _ (within 1 20 n.places) _ (next 13 14 (omega arith)) (within_told 1 20 n.places) (λ p e. p (within_parts 1 20 n.places e))
    (row_first (Field 14) (Field 15) _ _ (within 0 1024 n.jitter) _ (next 14 15 (omega arith)) (within_told 0 1024 n.jitter) (λ p e. p (within_parts 0 1024 n.jitter e))
    (row_last (Field 15) (within 1 (n.small / 16 - 1) n.bound) _ (within_told 1 (n.small / 16 - 1) n.bound) (λ p e. p (within_parts 1 (n.small / 16 - 1) n.bound e)))))))))))))))))).least

pub limits_least : (n : Numbers) → Short n → Least (WrongLimits n) (limits_broken n)
limits_least n s = subst (λ (o : Option Fault). Least (WrongLimits n) o) (sym (limits_flat n)) (flat_least n s)

-- what the groups say together
module _ (n : Numbers) where
  pub sizes_first : (f : Fault) → sizes_broken n ≡ Some f → limits_broken n ≡ Some f
  unfolding limits_broken
  sizes_first f e = or_first (sizes_broken n) _ f e

  pub digits_next : (f : Fault) → sizes_broken n ≡ None → digits_broken n ≡ Some f → limits_broken n ≡ Some f
  unfolding limits_broken
  digits_next f a e = or_next (sizes_broken n) _ a ∙ or_first (digits_broken n) _ f e

  pub weights_next : (f : Fault) → sizes_broken n ≡ None → digits_broken n ≡ None → weights_broken n ≡ Some f → limits_broken n ≡ Some f
  unfolding limits_broken
  weights_next f a b e = or_next (sizes_broken n) _ a ∙ or_next (digits_broken n) _ b ∙ or_first (weights_broken n) _ f e

  pub switch_last : sizes_broken n ≡ None → digits_broken n ≡ None → weights_broken n ≡ None → limits_broken n ≡ switch_broken n
  unfolding limits_broken
  switch_last a b e = or_next (sizes_broken n) _ a ∙ or_next (digits_broken n) _ b ∙ or_next (weights_broken n) _ e

-- a row that passes, and the rows after it
pub peel : (b : Bool) (f : Fault) (r : Option Fault) → or_else (unless b f) r ≡ None → (b ≡ true) × (r ≡ None)
peel true f r e = (refl, e)
peel false f r e = absurd (let z : ◌≡◌ {A = ℕ} 0 1 = cc in omega arith)

-- every test of a limit passed
pub record Tests (n : Numbers) : Type 0 where
  pub degree_passes : power_within 16 1024 n.degree ≡ true
  pub dimension_passes : even_within n.dimension ≡ true
  pub small_passes : power_within 32 (2 * n.degree) n.small ≡ true
  pub modulus_passes : ring_modulus n.modulus ≡ true
  pub root_passes : within 1 (n.modulus - 1) n.root ≡ true
  pub dropped_passes : power_within 1 65536 n.dropped ≡ true
  pub base_passes : power_within 2 65536 n.base ≡ true
  pub digits_passes : within 1 31 n.digits ≡ true
  pub noise_passes : within 0 1024 n.noise ≡ true
  pub weight_passes : within 1 n.degree n.weight ≡ true
  pub ones_passes : within 0 n.dimension n.ones ≡ true
  pub switch_passes : power_within n.small (2 ^ 20) n.switch ≡ true
  pub radix_passes : power_within 2 1024 n.radix ≡ true
  pub places_passes : within 1 20 n.places ≡ true
  pub jitter_passes : within 0 1024 n.jitter ≡ true
  pub bound_passes : within 1 (n.small / 16 - 1) n.bound ≡ true

pub tests_of : (n : Numbers) → is_some (limits_broken n) ≡ false → Tests n
unfolding flat
tests_of n fit =
    let t15 : Option Fault = unless (within 1 (n.small / 16 - 1) n.bound) (Field 15) in
    let t14 : Option Fault = or_else (unless (within 0 1024 n.jitter) (Field 14)) t15 in
    let t13 : Option Fault = or_else (unless (within 1 20 n.places) (Field 13)) t14 in
    let t12 : Option Fault = or_else (unless (power_within 2 1024 n.radix) (Field 12)) t13 in
    let t11 : Option Fault = or_else (unless (power_within n.small (2 ^ 20) n.switch) (Field 11)) t12 in
    let t10 : Option Fault = or_else (unless (within 0 n.dimension n.ones) (Field 10)) t11 in
    let t9 : Option Fault = or_else (unless (within 1 n.degree n.weight) (Field 9)) t10 in
    let t8 : Option Fault = or_else (unless (within 0 1024 n.noise) (Field 8)) t9 in
    let t7 : Option Fault = or_else (unless (within 1 31 n.digits) (Field 7)) t8 in
    let t6 : Option Fault = or_else (unless (power_within 2 65536 n.base) (Field 6)) t7 in
    let t5 : Option Fault = or_else (unless (power_within 1 65536 n.dropped) (Field 5)) t6 in
    let t4 : Option Fault = or_else (unless (within 1 (n.modulus - 1) n.root) (Field 4)) t5 in
    let t3 : Option Fault = or_else (unless (ring_modulus n.modulus) (Field 3)) t4 in
    let t2 : Option Fault = or_else (unless (power_within 32 (2 * n.degree) n.small) (Field 2)) t3 in
    let t1 : Option Fault = or_else (unless (even_within n.dimension) (Field 1)) t2 in
    let all = sym (limits_flat n) ∙ none_of (limits_broken n) fit in
    let p0 = peel (power_within 16 1024 n.degree) (Field 0) t1 (all) in
    let p1 = peel (even_within n.dimension) (Field 1) t2 p0.1 in
    let p2 = peel (power_within 32 (2 * n.degree) n.small) (Field 2) t3 p1.1 in
    let p3 = peel (ring_modulus n.modulus) (Field 3) t4 p2.1 in
    let p4 = peel (within 1 (n.modulus - 1) n.root) (Field 4) t5 p3.1 in
    let p5 = peel (power_within 1 65536 n.dropped) (Field 5) t6 p4.1 in
    let p6 = peel (power_within 2 65536 n.base) (Field 6) t7 p5.1 in
    let p7 = peel (within 1 31 n.digits) (Field 7) t8 p6.1 in
    let p8 = peel (within 0 1024 n.noise) (Field 8) t9 p7.1 in
    let p9 = peel (within 1 n.degree n.weight) (Field 9) t10 p8.1 in
    let p10 = peel (within 0 n.dimension n.ones) (Field 10) t11 p9.1 in
    let p11 = peel (power_within n.small (2 ^ 20) n.switch) (Field 11) t12 p10.1 in
    let p12 = peel (power_within 2 1024 n.radix) (Field 12) t13 p11.1 in
    let p13 = peel (within 1 20 n.places) (Field 13) t14 p12.1 in
    let p14 = peel (within 0 1024 n.jitter) (Field 14) t15 p13.1 in
    let p15 = passes (within 1 (n.small / 16 - 1) n.bound) (Field 15) p14.1 in
    record {
      degree_passes = p0.0;
      dimension_passes = p1.0;
      small_passes = p2.0;
      modulus_passes = p3.0;
      root_passes = p4.0;
      dropped_passes = p5.0;
      base_passes = p6.0;
      digits_passes = p7.0;
      noise_passes = p8.0;
      weight_passes = p9.0;
      ones_passes = p10.0;
      switch_passes = p11.0;
      radix_passes = p12.0;
      places_passes = p13.0;
      jitter_passes = p14.0;
      bound_passes = p15;
    }

-- where no number is outside, each is within its limits
pub limits_of : (n : Numbers) → is_some (limits_broken n) ≡ false → Limits n
limits_of n fit =
    let t = tests_of n fit in
    record {
      degree_ok = power_within_parts 16 1024 n.degree t.degree_passes;
      dimension_ok = even_parts n.dimension t.dimension_passes;
      small_ok = power_within_parts 32 (2 * n.degree) n.small t.small_passes;
      modulus_ok = ring_parts n.modulus t.modulus_passes;
      root_ok = within_parts 1 (n.modulus - 1) n.root t.root_passes;
      dropped_ok = power_within_parts 1 65536 n.dropped t.dropped_passes;
      base_ok = power_within_parts 2 65536 n.base t.base_passes;
      digits_ok = within_parts 1 31 n.digits t.digits_passes;
      noise_ok = within_parts 0 1024 n.noise t.noise_passes;
      weight_ok = within_parts 1 n.degree n.weight t.weight_passes;
      ones_ok = within_parts 0 n.dimension n.ones t.ones_passes;
      switch_ok = power_within_parts n.small (2 ^ 20) n.switch t.switch_passes;
      radix_ok = power_within_parts 2 1024 n.radix t.radix_passes;
      places_ok = within_parts 1 20 n.places t.places_passes;
      jitter_ok = within_parts 0 1024 n.jitter t.jitter_passes;
      bound_ok = within_parts 1 (n.small / 16 - 1) n.bound t.bound_passes;
    }
