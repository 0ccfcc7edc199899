-- A whole gate, and what it answers under the secrets.
use Rattle.std.specs.Prelude.{◌≡◌, ℕ, ◌+◌, ◌*◌, ◌≤◌, max, Bool, not, ◌⊎◌, List, [], ◌∷◌, ◌++◌, take, drop, ℤ, Option}
use Rattle.faults.specs.declared.fault.Fault.{Fault}
use Rattle.algebra.specs.Gates.{SwitchKey}
use Rattle.set.specs.declared.numbers.Numbers.{Numbers}
use Rattle.set.specs.declared.within.Within.{Within}
use Rattle.set.specs.declared.checked.Set.{Set}
use Rattle.sweeps.specs.Fit.{entries, FitsStart, FitsSweep}
use Rattle.sweeps.specs.Forms.{row_of}
use Rattle.gate.specs.declared.letter.Letter.{Letter}
use Rattle.gate.specs.Letters.{bit_of}
use Rattle.gate.specs.Lengths.{first_wrong, words_of, start_length, selectors_length, rows_length, gate_work}
use Rattle.gate.specs.Stages.{row_at, combined_of, started_of, swept_of, extracted_of, narrowed_of, switched_of, finished_of}
use Rattle.gate.specs.Bits.{HoldsBit, room_of}

-- start and sweep of combined words
unfoldable pub rotated_of : (Numbers → List ℕ → List (List ℕ) → List ℕ → List ℕ) → Numbers → List (List ℕ) → List (List ℕ) → List ℕ → List ℕ
rotated_of defined n start keys zs = swept_of defined n keys zs (started_of n start zs)

-- extract, round to M, switch, round to q
unfoldable pub settled_of : Numbers → List ℕ → List ℕ → List ℕ
settled_of n rows acc = finished_of n (switched_of n rows (narrowed_of n (extracted_of n acc)))

-- the gate of x and y, for the definition of a sweep
unfoldable pub gate_of : (Numbers → List ℕ → List (List ℕ) → List ℕ → List ℕ) → Numbers → Letter → List (List ℕ) → List (List ℕ) → List ℕ → List ℕ → List ℕ → List ℕ
gate_of defined n l start keys rows xs ys = settled_of n rows (rotated_of defined n start keys (combined_of n l xs ys))

-- the lists of a gate: x, y, result, start key, selectors, rows, small, work, scratch
abbrev pub gate_refused : Numbers → ℕ → ℕ → ℕ → ℕ → ℕ → ℕ → ℕ → ℕ → ℕ → ℕ → Option Fault
gate_refused n count x y out start selectors rows small work scratch =
    first_wrong 0 ((x, words_of n) ∷ (y, words_of n) ∷ (out, words_of n)
    ∷ (start, start_length n) ∷ (selectors, selectors_length n count) ∷ (rows, rows_length n)
    ∷ (small, words_of n) ∷ (work, gate_work n) ∷ (scratch, n.degree) ∷ [])

-- what the stages of a gate may rely on
pub record GateFits (n : Numbers) (count x y out start selectors rows small work scratch : ℕ) : Type 0 where
  pub x_long : x ≡ words_of n
  pub y_long : y ≡ words_of n
  pub out_long : out ≡ words_of n
  pub start_long : start ≡ start_length n
  pub selectors_long : selectors ≡ selectors_length n count
  pub rows_long : rows ≡ rows_length n
  pub small_long : small ≡ words_of n
  pub work_long : work ≡ gate_work n
  pub scratch_long : scratch ≡ n.degree

-- registers up to the highest of x, y and z
abbrev pub reach_of : Numbers → ℕ → ℕ → ℕ → ℕ
reach_of n x y z = (max (max x y) z + 1) * words_of n

-- the lists of a gate on registers, whose memory reaches to the highest of them
abbrev pub gate_at_refused : Numbers → ℕ → ℕ → ℕ → ℕ → ℕ → ℕ → ℕ → ℕ → ℕ → ℕ → ℕ → Option Fault
gate_at_refused n count x y z start selectors rows registers small work scratch =
    first_wrong 0 ((start, start_length n) ∷ (selectors, selectors_length n count) ∷ (rows, rows_length n)
    ∷ (registers, max registers (reach_of n x y z)) ∷ (small, words_of n) ∷ (work, gate_work n) ∷ (scratch, n.degree) ∷ [])

pub record GateAtFits (n : Numbers) (count x y z start selectors rows registers small work scratch : ℕ) : Type 0 where
  pub start_long : start ≡ start_length n
  pub selectors_long : selectors ≡ selectors_length n count
  pub rows_long : rows ≡ rows_length n
  pub x_in : x * words_of n + words_of n ≤ registers
  pub y_in : y * words_of n + words_of n ≤ registers
  pub z_in : z * words_of n + words_of n ≤ registers
  pub small_long : small ≡ words_of n
  pub work_long : work ≡ gate_work n
  pub scratch_long : scratch ≡ n.degree

-- the lists of invert, of two ciphertexts and on registers
abbrev pub invert_refused : Numbers → ℕ → ℕ → Option Fault
invert_refused n x out = first_wrong 0 ((x, words_of n) ∷ (out, words_of n) ∷ [])

abbrev pub invert_at_refused : Numbers → ℕ → ℕ → ℕ → Option Fault
invert_at_refused n x z registers = first_wrong 0 ((registers, max registers (reach_of n x x z)) ∷ [])

pub record InvertAtFits (n : Numbers) (x z registers : ℕ) : Type 0 where
  pub x_in : x * words_of n + words_of n ≤ registers
  pub z_in : z * words_of n + words_of n ≤ registers

-- register i, and the registers with new words at z
abbrev pub register_at : Numbers → List ℕ → ℕ → List ℕ
register_at n registers i = row_of (words_of n) registers i

abbrev pub with_register : Numbers → List ℕ → ℕ → List ℕ → List ℕ
with_register n registers z new = take (z * words_of n) registers ++ (new ++ drop (z * words_of n + words_of n) registers)

-- two parts of w words are the same one, or have no word in common
abbrev pub Apart : ℕ → ℕ → ℕ → Type 0
Apart w from to = (from ≡ to) ⊎ ((from + w ≤ to) ⊎ (to + w ≤ from))

-- switch rows of f under s
abbrev pub FitsRows : Numbers → List ℤ → List ℤ → List ℕ → Type 0
FitsRows n f s rows =
    SwitchKey n.switch n.degree n.dimension n.radix n.places n.jitter (entries f) (entries s) (row_at n.places (n.dimension + 1) rows)

-- all keys fit the secrets: the start key, the selectors of the sweep, the switch rows
pub record KeysFit (message : Within → List ℤ → ℕ → List ℕ) (count : Within → ℕ) (w : Within) (f s : List ℤ) (start keys : List (List ℕ)) (rows : List ℕ) : Type 0 where
  pub starts : FitsStart w.numbers f start
  pub sweeps : FitsSweep message count w f s keys
  pub switches : FitsRows w.numbers f s rows

-- what a gate answers: for all secrets that the keys fit and a set checked for the sweep,
-- words that hold bits with noise at most q/16 - 1 give words that hold the gate's bit with noise at most β
pub record GateHolds (noise count : Within → ℕ) (message : Within → List ℤ → ℕ → List ℕ) (set : Set) (l : Letter)
    (start keys : List (List ℕ)) (rows xs ys result : List ℕ) : Type 0 where
  pub holds : (f s : List ℤ) → set.stated ≡ noise set.within → KeysFit message count set.within f s start keys rows
      → (a b : Bool) → HoldsBit set.within.numbers (room_of set.within.numbers) s a xs
      → HoldsBit set.within.numbers (room_of set.within.numbers) s b ys
      → HoldsBit set.within.numbers set.within.numbers.bound s (bit_of l a b) result

-- what invert answers: the opposite bit, with the same noise
pub record InvertHolds (w : Within) (xs result : List ℕ) : Type 0 where
  pub holds : (s : List ℤ) (V : ℕ) (m : Bool) → HoldsBit w.numbers V s m xs → HoldsBit w.numbers V s (not m) result
