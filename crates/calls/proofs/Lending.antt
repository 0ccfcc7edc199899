-- Parts of the run's memory that a call is lent.
use Rattle.std.proofs.Common.{◌≡◌, ℕ, ◌+◌, ◌-◌, ◌≤◌, min, List, [], ◌∷◌, ◌++◌, length, take, drop, replicate, Some, None, Option, Result, sym, refl, ap, ◌∙◌, arith}
use borrow.Rule.Slice.PartMut.{post_of}
use Rattle.std.proofs.lemmas.List.{length-take-le, length-replicate, drop-replicate, take-append-drop}
use Rattle.faults.specs.declared.fault.Fault.{Fault}
use Rattle.faults.specs.Least.{refusal, told}
use Rattle.set.specs.declared.numbers.Numbers.{Numbers}
use Rattle.gate.specs.Lengths.{start_length, selectors_length, rows_length, gate_work}
use Rattle.registers.specs.Registers.{wide}
use Rattle.registers.specs.Marks.{State}
use Rattle.registers.specs.Steps.{either, refuse_read, words_read, read_out}
use Rattle.registers.proofs.Accepted.{read_accepted}
use Rattle.calls.specs.declared.call.Lent.{Lent}
use Rattle.calls.specs.declared.answer.Answer.{Answer}
use Rattle.calls.specs.declared.answer.Answer.TheVariants.{Ran}
use Rattle.calls.specs.Answers.{verdict}
use Rattle.calls.specs.Orders.{Ending, ending}
use Rattle.calls.specs.Plain.{unless_refused}
use Rattle.calls.specs.Calls.{handed_lists, lent_lists, stopped}

-- a part of a list from its start
cut_long : (a : ℕ) (xs : List ℕ) → a ≤ length xs → length (take (a - 0) xs) ≡ a
cut_long a xs h = length-take-le (a - 0) xs (omega arith) ∙ omega arith

-- lists of these lengths are what the run lends
pub lists_lent : (m : Numbers) (count : ℕ) (lent : Lent) (start selectors rows small work scratch : List ℕ) (a b c : ℕ)
    → length start ≡ start_length m → length selectors ≡ selectors_length m count → length rows ≡ rows_length m
    → length small ≡ wide m + 1 → length work ≡ gate_work m + 1 → length scratch ≡ m.degree + 1
    → a ≡ min lent.small (length small) → b ≡ min lent.work (length work) → c ≡ min lent.scratch (length scratch)
    → handed_lists start selectors rows (take (a - 0) small) (take (b - 0) work) (take (c - 0) scratch) ≡ lent_lists m count lent
lists_lent m count lent start selectors rows small work scratch a b c h1 h2 h3 h4 h5 h6 l1 l2 l3 =
    let k1 : length (take (a - 0) small) ≡ min lent.small (wide m + 1) = cut_long a small (omega arith) ∙ l1 ∙ ap (min lent.small) h4 in
    let k2 : length (take (b - 0) work) ≡ min lent.work (gate_work m + 1) = cut_long b work (omega arith) ∙ l2 ∙ ap (min lent.work) h5 in
    let k3 : length (take (c - 0) scratch) ≡ min lent.scratch (m.degree + 1) = cut_long c scratch (omega arith) ∙ l3 ∙ ap (min lent.scratch) h6 in
    cc

-- a slot of zeros, of which the first n words were lent to a read
pub slot_read : (m : Numbers) (s : State) (x len n : ℕ) (slot zeros out : List ℕ) → length slot ≡ wide m + 1 → n ≡ min len (length zeros) → zeros ≡ replicate (length slot) 0
    → out ≡ read_out m s x (take (n - 0) zeros)
    → (length (take (n - 0) zeros) ≡ min len (wide m + 1))
    × (out ++ post_of 0 (n - 0) zeros ≡ either (refuse_read m s x (min len (wide m + 1))) (replicate (wide m + 1) 0) (words_read m s x ++ 0 ∷ []))
slot_read m s x len n slot zeros out long is zero words =
    let w : ℕ = wide m + 1 in
    let many : length zeros ≡ wide m + 1 = ap length zero ∙ length-replicate (length slot) 0 ∙ long in
    let all : zeros ≡ replicate (wide m + 1) 0 = zero ∙ ap (λ (k : ℕ). replicate k 0) long in
    let le : n ≤ length zeros = omega arith in
    let lens : length (take (n - 0) zeros) ≡ min len (wide m + 1) = cut_long n zeros le ∙ is ∙ ap (min len) many in (
      lens,
      by-refusal (refuse_read m s x (min len w)) refl
          (words ∙ ap (λ (k : ℕ). either (refuse_read m s x k) (take (n - 0) zeros) (words_read m s x)) lens) all le (cut_long n zeros le) lens,
    )
  where
    by-refusal : (r : Option Fault) → refuse_read m s x (min len (wide m + 1)) ≡ r → out ≡ either r (take (n - 0) zeros) (words_read m s x)
        → zeros ≡ replicate (wide m + 1) 0 → n ≤ length zeros → length (take (n - 0) zeros) ≡ n → length (take (n - 0) zeros) ≡ min len (wide m + 1)
        → out ++ post_of 0 (n - 0) zeros ≡ either r (replicate (wide m + 1) 0) (words_read m s x ++ 0 ∷ [])
    by-refusal (Some f) e o all le here lens =
        ap (λ (v : List ℕ). v ++ drop (n - 0) zeros) o ∙ take-append-drop (n - 0) zeros ∙ all
    by-refusal None e o all le here lens =
        let a = read_accepted m s x (min len (wide m + 1)) e in
        let k : n ≡ wide m = sym here ∙ lens ∙ a.long in
        ap (λ (v : List ℕ). v ++ drop (n - 0) zeros) o
        ∙ ap (λ (v : List ℕ). words_read m s x ++ drop (n - 0) v) all
        ∙ ap (λ (v : List ℕ). words_read m s x ++ v) (drop-replicate (n - 0) (wide m + 1) 0 ∙ ap (λ (j : ℕ). replicate j 0) {x = wide m + 1 - (n - 0)} {y = 1} (omega arith))

-- what a list of orders answers, from its ending
pub ending_answer : {S : Type 0} (r : Option Fault) (s t : S) (e : Ending S) (n : ℕ) (stop : Option Fault)
    → ending t n stop ≡ unless_refused r (ending s 0 r) e → Ran (record { orders = n; stop = stop }) ≡ stopped r e
ending_answer None s t e n stop h =
    let a : n ≡ e.count = ap (λ (x : Ending _). x.count) h in
    let b : stop ≡ e.stop = ap (λ (x : Ending _). x.stop) h in
    cc
ending_answer (Some f) s t e n stop h =
    let a : n ≡ 0 = ap (λ (x : Ending _). x.count) h in
    let b : stop ≡ Some f = ap (λ (x : Ending _). x.stop) h in
    cc

pub ending_state : (r : Option Fault) (s t : State) (e : Ending State) (n : ℕ) (stop : Option Fault)
    → ending t n stop ≡ unless_refused r (ending s 0 r) e → t ≡ either r s e.state
ending_state None s t e n stop h = ap (λ (x : Ending State). x.state) h
ending_state (Some f) s t e n stop h = ap (λ (x : Ending State). x.state) h

pub verdict_told : (r : Option Fault) (a : Result (Unit {0}) Fault) (v : Answer) → v ≡ verdict (refusal a) → a ≡ told r → v ≡ verdict r
verdict_told None a v e h = e ∙ ap (λ (x : Result (Unit {0}) Fault). verdict (refusal x)) h
verdict_told (Some f) a v e h = e ∙ ap (λ (x : Result (Unit {0}) Fault). verdict (refusal x)) h
