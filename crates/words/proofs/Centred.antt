-- The centred representative of a word.
use Rattle.std.proofs.Common.{◌≡◌, ℕ, ◌+◌, ◌-◌, ◌*◌, ◌/◌, ◌%◌, ◌^◌, ◌<◌, Bool, true, false, cond, ltb, ℤ, pos, ◌+ℤ◌, ◌*ℤ◌, neg_ℤ, ◌≤ℤ◌, ◌<ℤ◌, refl, arith, w64, SFits}
use Rattle.std.proofs.lemmas.Int.{ints}
use Rattle.std.proofs.lemmas.Nat.{mod_below, div-add-mod'}
use Rattle.std.proofs.lemmas.Bool.{ltb-true, ltb-false}
use Rattle.words.specs.Digits.{centred_of}
use Rattle.words.specs.Gadgets.{Centred}

by_side : (b : Bool) (R x : ℕ) → 0 < R → ltb R (2 * (x % R)) ≡ b → Centred R x (cond b (neg_ℤ (pos (R - x % R))) (pos (x % R)))
by_side false R x some e =
    let h = ltb-false R (2 * (x % R)) e in
    record {
      above = omega (arith, ints);
      at_most = omega (arith, ints);
      times = pos (x / R);
      same = omega (arith, ints, div-add-mod' x R);
    }
by_side true R x some e =
    let h = ltb-true R (2 * (x % R)) e in
    let m = mod_below x R some in
    record {
      above = omega (arith, ints);
      at_most = omega (arith, ints);
      times = pos (x / R + 1);
      same = next (x % R) (x / R) R x m (div-add-mod' x R);
    }
  where
    next : (m d R x : ℕ) → m < R → d * R + m ≡ x → pos x ≡ neg_ℤ (pos (R - m)) +ℤ pos R *ℤ pos (d + 1)
    next m d R x l h = omega (arith, ints)

pub centred_right : (R x : ℕ) → 0 < R → Centred R x (centred_of R x)
centred_right R x some = by_side (ltb R (2 * (x % R))) R x some refl

pub centred_fits : (R x : ℕ) → 0 < R → R < 2 ^ 31 → SFits w64 (centred_of R x)
centred_fits R x some few = let c = centred_right R x some in let a = c.above in let b = c.at_most in small (centred_of R x) R few a b
  where
    small : (v : ℤ) (R : ℕ) → R < 2 ^ 31 → neg_ℤ (pos R) <ℤ (v +ℤ v) → (v +ℤ v) ≤ℤ pos R → SFits w64 v
    small v R few a b = omega (arith, ints)
