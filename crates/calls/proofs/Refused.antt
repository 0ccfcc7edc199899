-- Each refusal of a run is the least of the faults that are true of it.
use Rattle.std.proofs.Common.{◌≡◌, ℕ, ◌+◌, ◌*◌, ◌%◌, ◌<◌, ◌≤◌, ◌&&◌, eqb, leb, ◌⊎◌, Some, None, Option, sym, refl, ap, ◌∙◌, subst, inl, inr, arith}
use native.Mathlib.Nat.{mul-mod_left}
use Rattle.std.proofs.lemmas.Bool.{cases_eq, eqb-true, eqb-false, ne_eqb}
use Rattle.faults.specs.declared.fault.Fault.{Fault}
use Rattle.faults.specs.declared.fault.Fault.TheVariants.{Length, Register}
use Rattle.faults.specs.declared.fault.Layer.TheVariants.{File, Runs}
use Rattle.faults.specs.Least.{Least, or_else, unless}
use Rattle.faults.proofs.Least.{Rows, row_first, row_last}
use Rattle.set.specs.declared.numbers.Numbers.{Numbers}
use Rattle.gate.specs.Lengths.{start_length, selectors_length, rows_length, gate_work}
use Rattle.gate.proofs.Answers.{right_then}
use Rattle.registers.specs.declared.lists.Lists.{Lists}
use Rattle.registers.specs.Registers.{wide}
use Rattle.registers.proofs.Refusals.{count_wrong, count_right}
use Rattle.registers.specs.Steps.{refuse_new}
use Rattle.registers.specs.Steps.{bad_list}
use Rattle.calls.specs.Runs.{run_lists, refuse_run, WrongRun, LeastRun}

-- one list before the next
list_row : (i j have want : ℕ) (W : Fault → Type 0) (rest : Option Fault) → i < j → Rows (Length j Runs) W rest
    → Rows (Length i Runs) (λ g. ((g ≡ Length i Runs) × (have ≡ want → ⊥)) ⊎ W g) (or_else (bad_list Runs i have want) rest)
list_row i j have want W rest l h =
    row_first (Length i Runs) (Length j Runs) W rest (eqb have want) (have ≡ want → ⊥) (inr (refl, inl l)) (λ e. eqb-false have want e) (λ p e. p (eqb-true have want e)) h

last_row : (i have want R : ℕ)
    → Rows (Length i Runs) (λ g. ((g ≡ Length i Runs) × (have ≡ want → ⊥)) ⊎ ((g ≡ Register R) × (((1 ≤ R) × (R ≤ 64)) → ⊥)))
    (or_else (bad_list Runs i have want) (unless (leb 1 R && leb R 64) (Register R)))
last_row i have want R =
    row_first (Length i Runs) (Register R) _ _ (eqb have want) (have ≡ want → ⊥) (inl (omega arith)) (λ e. eqb-false have want e) (λ p e. p (eqb-true have want e))
    (row_last (Register R) (leb 1 R && leb R 64) (((1 ≤ R) × (R ≤ 64)) → ⊥) (count_wrong R) (count_right R))

flat : (a b k1 k2 k3 m w1 w2 w3 r : Option Fault)
    → or_else a (or_else b (or_else k1 (or_else k2 (or_else k3 (or_else m (or_else w1 (or_else w2 (or_else w3 r))))))))
    ≡ or_else (or_else a (or_else b (or_else (or_else k1 (or_else k2 k3)) (or_else m (or_else w1 (or_else w2 w3)))))) r
flat (Some f) b k1 k2 k3 m w1 w2 w3 r = refl
flat None (Some f) k1 k2 k3 m w1 w2 w3 r = refl
flat None None (Some f) k2 k3 m w1 w2 w3 r = refl
flat None None None (Some f) k3 m w1 w2 w3 r = refl
flat None None None None (Some f) m w1 w2 w3 r = refl
flat None None None None None (Some f) w1 w2 w3 r = refl
flat None None None None None None (Some f) w2 w3 r = refl
flat None None None None None None None (Some f) w3 r = refl
flat None None None None None None None None (Some f) r = refl
flat None None None None None None None None None r = refl

pub run_least : (m : Numbers) (count R calls got reads regs : ℕ) (l : Lists) → LeastRun m count R calls got reads regs l
run_least m count R calls got reads regs l =
    let rows =
    list_row 1 2 got calls _ _ (omega arith)
    (list_row 2 3 reads (calls * (wide m + 1)) _ _ (omega arith)
    (list_row 3 4 l.start (start_length m) _ _ (omega arith)
    (list_row 4 5 l.selectors (selectors_length m count) _ _ (omega arith)
    (list_row 5 6 l.rows (rows_length m) _ _ (omega arith)
    (list_row 6 7 regs (R * wide m) _ _ (omega arith)
    (list_row 7 8 l.small (wide m + 1) _ _ (omega arith)
    (list_row 8 9 l.work (gate_work m + 1) _ _ (omega arith)
    (last_row 9 l.scratch (m.degree + 1) R)))))))) in
    subst (Least (WrongRun m count R calls got reads regs l))
    (flat (bad_list Runs 1 got calls) (bad_list Runs 2 reads (calls * (wide m + 1))) (bad_list Runs 3 l.start (start_length m)) (bad_list Runs 4 l.selectors (selectors_length m count))
    (bad_list Runs 5 l.rows (rows_length m)) (bad_list Runs 6 regs (R * wide m)) (bad_list Runs 7 l.small (wide m + 1)) (bad_list Runs 8 l.work (gate_work m + 1))
    (bad_list Runs 9 l.scratch (m.degree + 1)) (unless (leb 1 R && leb R 64) (Register R)))
    rows.least

-- no product, told by a remainder
pub rows_not : (n w rows : ℕ) → (n % w ≡ 0 → ⊥) → eqb (n % w) 0 ≡ eqb n (rows * w)
rows_not n w rows h = ne_eqb (n % w) 0 h ∙ sym (ne_eqb n (rows * w) (λ e. h (ap (λ (k : ℕ). k % w) e ∙ mul-mod_left rows w)))

rest_none : (a b : Option Fault) → or_else a b ≡ None → b ≡ None
rest_none None b e = e
rest_none (Some f) b e = absurd (let z : ◌≡◌ {A = ℕ} 0 1 = cc in omega arith)

-- a run that is not refused has register memory of the right length, and its file is made
regs_right : (m : Numbers) (count R calls got reads regs : ℕ) (l : Lists) → refuse_run m count R calls got reads regs l ≡ None → regs ≡ R * wide m
regs_right m count R calls got reads regs l e =
    let clean : (g : Fault) → WrongRun m count R calls got reads regs l g → ⊥ =
    subst (Least (WrongRun m count R calls got reads regs l)) e (run_least m count R calls got reads regs l) in
    elim (cases_eq regs (R * wide m)) [ inl h ↦ h | inr n ↦ absurd (clean (Length 6 Runs) (inr (inr (inr (inr (inr (inl (refl, n)))))))) ]

pub file_made : (m : Numbers) (count R calls got reads regs : ℕ) (l : Lists) → refuse_run m count R calls got reads regs l ≡ None → refuse_new m R regs ≡ None
file_made m count R calls got reads regs l e =
    right_then regs (R * wide m) (Length 0 File) (unless (leb 1 R && leb R 64) (Register R)) (regs_right m count R calls got reads regs l e)
    ∙ rest_none (run_lists m count R calls got reads regs l) (unless (leb 1 R && leb R 64) (Register R)) e

pub never : {A : Type 0} (f : Fault) (r : Option Fault) → Some f ≡ r → r ≡ None → A
never f r e h = absurd (let z : ◌≡◌ {A = ℕ} 0 1 = cc in omega arith)
