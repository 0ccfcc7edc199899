-- The lists of each call, and their right lengths.
use Rattle.std.specs.Prelude.{◌≡◌, ℕ, ◌+◌, ◌*◌, ◌<◌, cond, List, [], ◌∷◌, length, replicate, is_ok, Some, None, Ok, Err, Option, Result, ◌≢◌, slice_index_or}
use Rattle.faults.specs.declared.fault.Fault.{Fault}
use Rattle.faults.specs.declared.fault.Fault.TheVariants.{Length}
use Rattle.faults.specs.declared.fault.Layer.TheVariants.{Gate}
use Rattle.faults.specs.Least.{Least}
use Rattle.faults.specs.Lengths.{wrong_from, RightLengths}
use Rattle.set.specs.declared.numbers.Numbers.{Numbers}
use Rattle.gate.specs.declared.stages.Declined.{Declined}

-- the first list, counted from i on, that has another length than the call's; each list is told by its length and the right one
abbrev pub first_wrong : ℕ → List (ℕ × ℕ) → Option Fault
first_wrong i ls = wrong_from Gate i ls

-- every list has its right length
abbrev pub AllRight : List (ℕ × ℕ) → Type 0
AllRight ls = RightLengths ls

-- what a stage answers: what it made, or why it refuses, and what it was handed
abbrev pub staged : {X Y : Type 0} → Option Fault → X → Y → Result X (Declined Y)
staged None made kept = Ok made
staged (Some f) made kept = Err (record { fault = f; token = kept })

-- a call that is handed no stage value
abbrev pub begun : {X : Type 0} → Option Fault → X → Result X Fault
begun None made = Ok made
begun (Some f) made = Err f

-- what a list holds after a call: what the call makes, or all as it was where it refuses
abbrev pub wrote : {X Y : Type 0} → Result X Y → List ℕ → List ℕ → List ℕ
wrote r made old = cond (is_ok r) made old

-- the input of a stage serves once: zeros are left, or all as it was where the stage refuses
abbrev pub spent : {X Y : Type 0} → Result X Y → List ℕ → List ℕ
spent r old = cond (is_ok r) (replicate (length old) 0) old

-- the words of a ciphertext, and of an extracted sample
abbrev pub words_of : Numbers → ℕ
words_of n = n.dimension + 1

abbrev pub sample_of : Numbers → ℕ
sample_of n = n.degree + 1

-- the words of the start key, of `count` selectors, and of the switch rows
abbrev pub start_length : Numbers → ℕ
start_length n = n.digits * n.degree

abbrev pub selectors_length : Numbers → ℕ → ℕ
selectors_length n count = count * n.digits * n.degree

abbrev pub rows_length : Numbers → ℕ
rows_length n = n.degree * (n.places * words_of n)

-- the work memory of a sweep, and of a gate
abbrev pub sweep_work : Numbers → ℕ
sweep_work n = (n.digits + 1) * n.degree

abbrev pub gate_work : Numbers → ℕ
gate_work n = sweep_work n + n.degree + sample_of n + sample_of n + words_of n

-- the lists of the stages
abbrev pub combine_refused : Numbers → ℕ → ℕ → ℕ → Option Fault
combine_refused n x y out = first_wrong 0 ((x, words_of n) ∷ (y, words_of n) ∷ (out, words_of n) ∷ [])

abbrev pub start_refused : Numbers → ℕ → ℕ → ℕ → ℕ → ℕ → Option Fault
start_refused n combined acc key work scratch =
    first_wrong 0 ((combined, words_of n) ∷ (acc, n.degree) ∷ (key, start_length n) ∷ (work, sweep_work n) ∷ (scratch, n.degree) ∷ [])

abbrev pub sweep_refused : Numbers → ℕ → ℕ → ℕ → ℕ → ℕ → ℕ → Option Fault
sweep_refused n count combined acc keys work scratch =
    first_wrong 0
    ((combined, words_of n) ∷ (acc, n.degree) ∷ (keys, selectors_length n count) ∷ (work, sweep_work n) ∷ (scratch, n.degree) ∷ [])

abbrev pub extract_refused : Numbers → ℕ → ℕ → Option Fault
extract_refused n acc out = first_wrong 0 ((acc, n.degree) ∷ (out, sample_of n) ∷ [])

abbrev pub narrow_refused : Numbers → ℕ → ℕ → Option Fault
narrow_refused n words out = first_wrong 0 ((words, sample_of n) ∷ (out, sample_of n) ∷ [])

abbrev pub switch_refused : Numbers → ℕ → ℕ → ℕ → Option Fault
switch_refused n words out rows = first_wrong 0 ((words, sample_of n) ∷ (out, words_of n) ∷ (rows, rows_length n) ∷ [])

abbrev pub finish_refused : Numbers → ℕ → ℕ → Option Fault
finish_refused n words out = first_wrong 0 ((words, words_of n) ∷ (out, words_of n) ∷ [])

-- what the second and third stages may rely on
pub record StartFits (n : Numbers) (combined acc key work scratch : ℕ) : Type 0 where
  pub combined_long : combined ≡ words_of n
  pub acc_long : acc ≡ n.degree
  pub key_long : key ≡ start_length n
  pub work_long : work ≡ sweep_work n
  pub scratch_long : scratch ≡ n.degree

pub record SweepFits (n : Numbers) (count combined acc keys work scratch : ℕ) : Type 0 where
  pub combined_long : combined ≡ words_of n
  pub acc_long : acc ≡ n.degree
  pub keys_long : keys ≡ selectors_length n count
  pub work_long : work ≡ sweep_work n
  pub scratch_long : scratch ≡ n.degree

-- every fault that is true of lists with these lengths, in no order
abbrev pub WrongLengths : List (ℕ × ℕ) → Fault → Type 0
WrongLengths ls g = (i : ℕ) × ((i < length ls) × ((g ≡ Length i Gate) × ((slice_index_or ls i (0, 0)).0 ≢ (slice_index_or ls i (0, 0)).1)))

-- the first is the least
abbrev pub LengthsLeast : Type 0
LengthsLeast = (ls : List (ℕ × ℕ)) → Least (WrongLengths ls) (first_wrong 0 ls)
