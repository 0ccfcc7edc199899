use Rattle.std.proofs.Common.{◌≡◌, ℕ, ◌%◌, ◌-ℤ◌, ◌<◌, ℤ, sym, subst, arith, rules, w64, to_z, of_z}
use Rattle.words.specs.Digits.{centred_of}
use Rattle.words.specs.Gadgets.{Centred}
use Rattle.words.proofs.Centred.{centred_right}
use Rattle.words.proofs.gadget.split.centred.Goals as goal

right_from : (R x : ℕ) (v : ℤ) → 0 < R → v ≡ centred_of R x → Centred R x v
right_from R x v some e = subst (λ (z : ℤ). Centred R x z) (sym e) (centred_right R x some)

pub returns-then-x-modulus-clause-right : goal.returns-then-x-modulus-clause-right
returns-then-x-modulus-clause-right c =
    right_from c.args.modulus.now.value c.args.word (to_z w64 (c.args.word % c.get-modulus.result)) (omega arith) (search rules)

pub returns-else-x-modulus-clause-right : goal.returns-else-x-modulus-clause-right
returns-else-x-modulus-clause-right c =
    right_from c.args.modulus.now.value c.args.word
    (to_z w64 (of_z w64 (to_z w64 (c.args.word % c.get-modulus.result) -ℤ to_z w64 c.get-modulus.result))) (omega arith) (search rules)
