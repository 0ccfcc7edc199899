-- What the answer of one call tells of its refusal.
use Rattle.std.proofs.Common.{◌≡◌, ℕ, ◌+◌, List, ◌∷◌, length, Some, None, Ok, Err, Option, sym, refl, ap, ◌∙◌, arith}
use Rattle.faults.specs.declared.fault.Fault.{Fault}
use Rattle.faults.specs.Least.{told}
use Rattle.set.specs.declared.numbers.Numbers.{Numbers}
use Rattle.registers.specs.declared.lists.Lists.{Lists}
use Rattle.registers.specs.declared.op.Op.{Op}
use Rattle.registers.specs.Marks.{State}
use Rattle.registers.specs.Steps.{Gates, either, done_op}
use Rattle.calls.specs.Orders.{Ending, ending, order_of}
use Rattle.calls.specs.Calls.{handed_lists, refuse_by}
use Rattle.calls.proofs.Steps.{from, runs_on, refused-at}

pub ok_none : (r : Option Fault) (u : Unit {0}) → Ok u ≡ told r → r ≡ None
ok_none None u e = refl
ok_none (Some f) u e = absurd (let z : ◌≡◌ {A = ℕ} 0 1 = cc in omega arith)

pub err_some : (r : Option Fault) (f : Fault) → Err f ≡ told r → r ≡ Some f
err_some None f e = absurd (let z : ◌≡◌ {A = ℕ} 0 1 = cc in omega arith)
err_some (Some g) f e = cc

-- lists as long as they were
pub lists_stay : (start selectors rows small work scratch small' work' scratch' : List ℕ)
    → length small ≡ length small' → length work ≡ length work' → length scratch ≡ length scratch'
    → handed_lists start selectors rows small work scratch ≡ handed_lists start selectors rows small' work' scratch'
lists_stay start selectors rows small work scratch small' work' scratch' a b c = cc

-- one turn of the runner: an order that runs, and one that is refused
module _ (gates : Gates) (m : Numbers) (count : ℕ) (lists same : Lists) (e : same ≡ lists) (all : Ending State) (c : ℕ) (s after : State) (xs rest : List ℕ) (l x y z : ℕ) (op : Op)
    (is : xs ≡ l ∷ (x ∷ (y ∷ (z ∷ rest)))) (named : Some op ≡ order_of l x y z)
    (left : after ≡ either (refuse_by m count same s op) s (done_op gates m s op)) (inv : all ≡ from gates m count lists c s xs) where
  pub turn_on : (u : Unit {0}) → Ok u ≡ told (refuse_by m count same s op) → all ≡ from gates m count lists (c + 1) after rest
  turn_on u h =
      let none = ok_none (refuse_by m count same s op) u h in
      inv
      ∙ runs_on gates m count lists c s xs l x y z rest is op named (ap (λ (v : Lists). refuse_by m count v s op) (sym e) ∙ none)
      ∙ ap (λ (v : State). from gates m count lists (c + 1) v rest) (sym (left ∙ ap (λ (r : Option Fault). either r s (done_op gates m s op)) none))

  pub turn_off : (f : Fault) → Err f ≡ told (refuse_by m count same s op) → ending after c (Some f) ≡ all
  turn_off f h =
      let some = err_some (refuse_by m count same s op) f h in
      ap (λ (v : State). ending v c (Some f)) (left ∙ ap (λ (r : Option Fault). either r s (done_op gates m s op)) some)
      ∙ sym (refused-at gates m count lists c s xs l x y z rest is op f named (ap (λ (v : Lists). refuse_by m count v s op) (sym e) ∙ some))
      ∙ sym inv
