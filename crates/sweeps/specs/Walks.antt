-- Sweeps step by step: what a walk owes, and that single and paired sweeps are walks.
use Rattle.std.specs.Prelude.{◌≡◌, ℕ, ◌+◌, ◌*◌, ◌/◌, ◌^◌, ◌<◌, ◌≤◌, List, take, drop, slice_index, refl}
use Rattle.std.proofs.Common.{ap, ◌∙◌, get_or, add-one, arith}
use Rattle.std.proofs.lemmas.List.{get_or-take, get_or-drop}
use Rattle.set.specs.declared.numbers.Numbers.{Numbers}
use Rattle.set.specs.declared.within.Within.{Within}
use Rattle.sweeps.specs.Steps.{single_step, single_steps, single_run, paired_step, paired_steps, paired_run}

-- no step leaves the accumulator, each step takes its part of the exponents, and all of them are the run
abbrev pub Starts : (Numbers → List ℕ → List (List ℕ) → ℕ → List ℕ → List ℕ) → Type 0
Starts walked = (n : Numbers) (exponents : List ℕ) (keys : List (List ℕ)) (acc : List ℕ) → acc ≡ walked n exponents keys 0 acc

abbrev pub Goes : ℕ → (Numbers → List (List ℕ) → ℕ → List ℕ → List ℕ → List ℕ) → (Numbers → List ℕ → List (List ℕ) → ℕ → List ℕ → List ℕ) → Type 0
Goes part stepped walked = (n : Numbers) (exponents : List ℕ) (keys : List (List ℕ)) (i : ℕ) (acc : List ℕ)
    → stepped n keys i (take part (drop (i * part) exponents)) (walked n exponents keys i acc) ≡ walked n exponents keys (i + 1) acc

abbrev pub Ends : (Within → ℕ) → (Numbers → List ℕ → List (List ℕ) → ℕ → List ℕ → List ℕ) → (Numbers → List ℕ → List (List ℕ) → List ℕ → List ℕ) → Type 0
Ends rounds walked run = (w : Within) (exponents : List ℕ) (keys : List (List ℕ)) (acc : List ℕ)
    → walked w.numbers exponents keys (rounds w) acc ≡ run w.numbers exponents keys acc

-- a step by the exponents that it takes
abbrev pub single_taking : Numbers → List (List ℕ) → ℕ → List ℕ → List ℕ → List ℕ
single_taking n keys i es acc = single_step n keys i (slice_index es 0) acc

abbrev pub paired_taking : Numbers → List (List ℕ) → ℕ → List ℕ → List ℕ → List ℕ
paired_taking n keys i es acc = paired_step n keys i (slice_index es 0) (slice_index es 1) acc

-- entry k of the part of step i
part_at : (part i k m : ℕ) (xs : List ℕ) → k < part → i * part + k ≡ m → get_or (take part (drop (i * part) xs)) k 0 ≡ get_or xs m 0
part_at part i k m xs l e =
    get_or-take part (drop (i * part) xs) k 0 l ∙ get_or-drop (i * part) xs k 0 ∙ ap (λ (j : ℕ). get_or xs j 0) e

pub single_starts : Starts single_steps
unfolding single_steps
single_starts n es keys acc = refl

pub single_goes : Goes 1 single_taking single_steps
unfolding single_steps
single_goes n es keys i acc =
    rw (add-one i) (ap (λ (e : ℕ). single_step n keys i e (single_steps n es keys i acc)) (part_at 1 i 0 i es (omega arith) (omega arith)))

pub single_ends : Ends (λ w. w.numbers.dimension) single_steps single_run
unfolding single_run
single_ends w es keys acc = refl

pub single_parts : (w : Within) → (0 < 1) × (w.numbers.dimension * 1 ≡ w.numbers.dimension) × (w.numbers.dimension ≤ 2 ^ 14)
    × ((i : ℕ) → i < w.numbers.dimension → i < w.numbers.dimension)
single_parts w = (omega arith, omega arith, omega (arith, w.lengths), λ i h. h)

pub paired_starts : Starts paired_steps
unfolding paired_steps
paired_starts n es keys acc = refl

pub paired_goes : Goes 2 paired_taking paired_steps
unfolding paired_steps
paired_goes n es keys i acc =
    rw (add-one i)
    (ap (λ (a : ℕ). paired_step n keys i a (get_or (take 2 (drop (i * 2) es)) 1 0) (paired_steps n es keys i acc)) (part_at 2 i 0 (2 * i) es (omega arith) (omega arith))
    ∙ ap (λ (b : ℕ). paired_step n keys i (get_or es (2 * i) 0) b (paired_steps n es keys i acc)) (part_at 2 i 1 (2 * i + 1) es (omega arith) (omega arith)))

pub paired_ends : Ends (λ w. w.numbers.dimension / 2) paired_steps paired_run
unfolding paired_run
paired_ends w es keys acc = refl

pub paired_parts : (w : Within) → (0 < 2) × (w.numbers.dimension / 2 * 2 ≡ w.numbers.dimension) × (3 * (w.numbers.dimension / 2) ≤ 2 ^ 14)
    × ((i : ℕ) → i < w.numbers.dimension / 2 → 3 * i + 2 < 3 * (w.numbers.dimension / 2))
paired_parts w = (omega arith, omega (arith, w.secrets), omega (arith, w.lengths), λ i h. omega arith)
