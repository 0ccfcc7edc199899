-- A list of orders, order by order.
use Rattle.std.proofs.Common.{◌≡◌, ℕ, ◌+◌, ◌*◌, ◌<◌, ◌≤◌, List, [], ◌∷◌, length, get_or, take, drop, Some, None, Option, sym, refl, ap, ◌∙◌, arith}
use Rattle.std.proofs.lemmas.List.{length-drop, drop-drop}
use Rattle.faults.specs.declared.fault.Fault.{Fault}
use Rattle.faults.specs.declared.fault.Fault.TheVariants.{Order}
use Rattle.set.specs.declared.numbers.Numbers.{Numbers}
use Rattle.registers.specs.declared.lists.Lists.{Lists}
use Rattle.registers.specs.declared.op.Op.{Op}
use Rattle.registers.specs.Marks.{State}
use Rattle.registers.specs.Steps.{Gates, done_op}
use Rattle.calls.specs.Orders.{Ending, ending, onward, order_of, parsed, ordered, OrdersAreCalls}
use Rattle.calls.specs.Calls.{refuse_by, orders_of}
use Rattle.calls.proofs.Ordering.{orders_are_calls}

-- the next four bytes
cut4 : (xs : List ℕ) → 4 ≤ length xs
    → xs ≡ get_or (take 4 xs) 0 0 ∷ (get_or (take 4 xs) 1 0 ∷ (get_or (take 4 xs) 2 0 ∷ (get_or (take 4 xs) 3 0 ∷ drop 4 xs)))
cut4 [] h = absurd (omega arith)
cut4 (l ∷ []) h = absurd (omega arith)
cut4 (l ∷ (x ∷ [])) h = absurd (omega arith)
cut4 (l ∷ (x ∷ (y ∷ []))) h = absurd (omega arith)
cut4 (l ∷ (x ∷ (y ∷ (z ∷ rest)))) h = refl

four : (xs chunk rest : List ℕ) → chunk ≡ take 4 xs → rest ≡ drop 4 xs → length rest + 4 ≡ length xs
    → xs ≡ get_or chunk 0 0 ∷ (get_or chunk 1 0 ∷ (get_or chunk 2 0 ∷ (get_or chunk 3 0 ∷ rest)))
four xs chunk rest a b h = let e = cut4 xs (omega arith) in cc

-- the bytes of the order numbered k, and what comes after them
pub order_at : (xs chunk : List ℕ) (k : ℕ) → chunk ≡ take 4 (drop (k * 4) xs) → (k + 1) * 4 ≤ length xs
    → drop (k * 4) xs ≡ get_or chunk 0 0 ∷ (get_or chunk 1 0 ∷ (get_or chunk 2 0 ∷ (get_or chunk 3 0 ∷ drop ((k + 1) * 4) xs)))
order_at xs chunk k a h =
    four (drop (k * 4) xs) chunk (drop ((k + 1) * 4) xs) a
    (sym (drop-drop 4 (k * 4) xs ∙ ap (λ (n : ℕ). drop n xs) (omega arith)))
    (omega (arith, length-drop (k * 4) xs, length-drop ((k + 1) * 4) xs))

parsed_four : (l x y z : ℕ) (rest : List ℕ) → parsed (l ∷ x ∷ y ∷ z ∷ rest) ≡ order_of l x y z ∷ parsed rest
unfolding parsed
parsed_four l x y z rest = refl

parsed_short : (ys : List ℕ) → 0 < length ys → length ys < 4 → parsed ys ≡ None ∷ []
unfolding parsed
parsed_short [] a b = absurd (omega arith)
parsed_short (l ∷ []) a b = refl
parsed_short (l ∷ (x ∷ [])) a b = refl
parsed_short (l ∷ (x ∷ (y ∷ []))) a b = refl
parsed_short (l ∷ (x ∷ (y ∷ (z ∷ rest)))) a b = absurd (omega arith)

parsed_none : (ys : List ℕ) → length ys ≡ 0 → parsed ys ≡ []
unfolding parsed
parsed_none [] e = refl
parsed_none (y ∷ ys) e = absurd (omega arith)

module _ (gates : Gates) (m : Numbers) (count : ℕ) (lists : Lists) where
  -- the orders that are left, of which c ran before
  abbrev pub from : ℕ → State → List ℕ → Ending State
  from c s left = ordered State (refuse_by m count lists) (done_op gates m) c s (parsed left)

  module _ (c : ℕ) (s : State) (left : List ℕ) where
    module _ (l x y z : ℕ) (rest : List ℕ) (is : left ≡ l ∷ (x ∷ (y ∷ (z ∷ rest)))) where
      next-order : (o : Option Op) → o ≡ order_of l x y z → from c s left ≡ ordered State (refuse_by m count lists) (done_op gates m) c s (o ∷ parsed rest)
      next-order o e =
          ap (ordered State (refuse_by m count lists) (done_op gates m) c s)
          (ap parsed is ∙ parsed_four l x y z rest ∙ ap (λ (v : Option Op). v ∷ parsed rest) (sym e))

      pub runs_on : (op : Op) → Some op ≡ order_of l x y z → refuse_by m count lists s op ≡ None → from c s left ≡ from (c + 1) (done_op gates m s op) rest
      runs_on op e none = next-order (Some op) e ∙ ap (λ (r : Option Fault). onward r s c (from (c + 1) (done_op gates m s op) rest)) none

      pub refused-at : (op : Op) (f : Fault) → Some op ≡ order_of l x y z → refuse_by m count lists s op ≡ Some f → from c s left ≡ ending s c (Some f)
      refused-at op f e some = next-order (Some op) e ∙ ap (λ (r : Option Fault). onward r s c (from (c + 1) (done_op gates m s op) rest)) some

      pub unknown-at : None ≡ order_of l x y z → from c s left ≡ ending s c (Some (Order c))
      unknown-at e = next-order None e

    pub broken-off : 0 < length left → length left < 4 → from c s left ≡ ending s c (Some (Order c))
    broken-off a b = ap (ordered State (refuse_by m count lists) (done_op gates m) c s) (parsed_short left a b)

    pub all-ran : length left ≡ 0 → from c s left ≡ ending s c None
    all-ran e = ap (ordered State (refuse_by m count lists) (done_op gates m) c s) (parsed_none left e)

  pub orders_from : (xs : List ℕ) (s : State) → orders_of gates m count lists s xs ≡ from 0 s xs
  unfolding orders_of
  orders_from xs s = refl

  pub orders_calls : (xs : List ℕ) (s : State) → OrdersAreCalls State (refuse_by m count lists) (done_op gates m) s (parsed xs) (orders_of gates m count lists s xs)
  unfolding orders_of
  orders_calls xs s = orders_are_calls State (refuse_by m count lists) (done_op gates m) s (parsed xs)
