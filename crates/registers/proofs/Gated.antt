-- A gate and an invert on registers, from those that are proved for lists of right lengths.
use Rattle.std.proofs.Common.{◌≡◌, ℕ, ◌+◌, ◌*◌, ◌<◌, ◌≤◌, max, Bool, List, [], ◌∷◌, ◌++◌, take, None, Result, sym, refl, ap, ◌∙◌, mul-le-mul_right, arith, eq-eqb}
use Rattle.std.proofs.lemmas.List.{drop-drop}
use Rattle.faults.specs.declared.fault.Fault.{Fault}
use Rattle.faults.specs.declared.fault.Fault.TheVariants.{Length}
use Rattle.faults.specs.declared.fault.Layer.TheVariants.{Gate}
use Rattle.faults.specs.Least.{or_else, unless, told}
use Rattle.kernels.specs.Lengths.{after}
use Rattle.set.specs.declared.numbers.Numbers.{Numbers}
use Rattle.gate.specs.Gates.{reach_of, gate_at_refused, invert_at_refused, with_register}
use Rattle.gate.specs.Lengths.{first_wrong, AllRight, start_length, selectors_length, rows_length, gate_work}
use Rattle.registers.specs.Registers.{wide, put_row}

none_wrong : (ls : List (ℕ × ℕ)) (i : ℕ) → AllRight ls → first_wrong i ls ≡ None
none_wrong [] i h = refl
none_wrong (l ∷ ls) i h =
    ap (λ (b : Bool). or_else (unless b (Length i Gate)) (first_wrong (i + 1) ls)) (eq-eqb l.0 l.1 h.0) ∙ none_wrong ls (i + 1) h.1

with_put : (m : Numbers) (regs new : List ℕ) (z : ℕ) → with_register m regs z new ≡ put_row m z regs new
with_put m regs new z = ap (λ (v : List ℕ). take (z * wide m) regs ++ (new ++ v)) (sym (drop-drop (wide m) (z * wide m) regs))

pub gated : (m : Numbers) (selectors count x y z a b c d e f g : ℕ) (r : Result (Unit {0}) Fault) (regs out new : List ℕ)
    → a ≡ start_length m → b ≡ selectors_length m selectors → c ≡ rows_length m → d ≡ count * wide m → e ≡ wide m → f ≡ gate_work m → g ≡ m.degree
    → x < count → y < count → z < count
    → r ≡ told (gate_at_refused m selectors x y z a b c d e f g)
    → out ≡ after r (with_register m regs z new) regs → out ≡ put_row m z regs new
gated m selectors count x y z a b c d e f g r regs out new ha hb hc hd he hf hg lx ly lz answer words =
    let room : (max (max x y) z + 1) * wide m ≤ count * wide m = mul-le-mul_right (wide m) (omega arith) in
    let long : d ≡ max d (reach_of m x y z) = omega arith in
    let none : gate_at_refused m selectors x y z a b c d e f g ≡ None =
    none_wrong ((a, start_length m) ∷ (b, selectors_length m selectors) ∷ (c, rows_length m) ∷ (d, max d (reach_of m x y z)) ∷ (e, wide m) ∷ (f, gate_work m) ∷ (g, m.degree) ∷ []) 0
    (ha, (hb, (hc, (long, (he, (hf, (hg, tt))))))) in
    words ∙ ap (λ (v : Result (Unit {0}) Fault). after v (with_register m regs z new) regs) (answer ∙ ap told none) ∙ with_put m regs new z

pub inverted : (m : Numbers) (count x z d : ℕ) (r : Result (Unit {0}) Fault) (regs out new : List ℕ)
    → d ≡ count * wide m → x < count → z < count
    → r ≡ told (invert_at_refused m x z d)
    → out ≡ after r (with_register m regs z new) regs → out ≡ put_row m z regs new
inverted m count x z d r regs out new hd lx lz answer words =
    let room : (max (max x x) z + 1) * wide m ≤ count * wide m = mul-le-mul_right (wide m) (omega arith) in
    let long : d ≡ max d (reach_of m x x z) = omega arith in
    let none : invert_at_refused m x z d ≡ None = none_wrong ((d, max d (reach_of m x x z)) ∷ []) 0 (long, tt) in
    words ∙ ap (λ (v : Result (Unit {0}) Fault). after v (with_register m regs z new) regs) (answer ∙ ap told none) ∙ with_put m regs new z
