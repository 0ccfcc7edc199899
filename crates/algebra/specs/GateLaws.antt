-- States what a gate answers: words that hold bits with noise below q/16 give words that hold the answer with noise at most β.
use Rattle.std.specs.Prelude.{ℕ, ◌-◌, ◌/◌, ◌≤◌, List, ℤ, pos}
use Rattle.algebra.specs.Polys.{Poly}
use Rattle.algebra.specs.Sweeps.{Sweeps}
use Rattle.algebra.specs.Gates.{Holds, Letter, outcome, gate, Fits}

-- for all numbers, secrets and keys that fit, and for every sweep that does what is asked of it
abbrev pub GateNoiseLaw : Type 0
GateNoiseLaw =
    (N n q Q P B d E F h M C k Z β S : ℕ) (f : Poly) (s : ℕ → ℕ) (start : ℕ → Poly) (row : ℕ → ℕ → ℕ → ℤ)
    → Fits N n q Q P B d E F h M C k Z β S f s start row
    → (sweep : (ℕ → ℕ) → List ℕ → List ℕ) → Sweeps Q N f n s S sweep
    → (o t a b : ℕ) (xs ys : List ℕ) → Letter o t → a ≤ 1 → b ≤ 1
    → Holds n q (q / 16 - 1) (λ j. pos (s j)) a xs → Holds n q (q / 16 - 1) (λ j. pos (s j)) b ys
    → Holds n q β (λ j. pos (s j)) (outcome o t a b) (gate N n q Q P B d M C k start sweep row o t xs ys)
