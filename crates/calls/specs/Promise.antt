-- What holds of every run: registers follow plain bits, kernels agree, and words decide nothing.
use Rattle.std.specs.Prelude.{◌≡◌, ℕ, ◌+◌, min, Bool, cond, List, [], ◌∷◌, map, take, drop, replicate, ℤ, is_some, Some, None, Ok, Option, nat_lt, slice_index_or}
use Rattle.set.specs.declared.numbers.Numbers.{Numbers}
use Rattle.set.specs.declared.within.Within.{Within}
use Rattle.set.specs.declared.checked.Set.{Set}
use Rattle.gate.specs.Bits.{HoldsBit, held_of, open_of}
use Rattle.gate.specs.Gates.{gate_of, KeysFit}
use Rattle.registers.specs.Registers.{numbers_of, wide, row_at}
use Rattle.registers.specs.Steps.{Gates}
use Rattle.calls.specs.Plain.{Entries, plain_place, plain_read}
use Rattle.calls.specs.Calls.{Asked, placing, reading, doing, ordering}
use Rattle.calls.specs.Runs.{Outcome, run_of, plain_next, plain_answers, plain_left}

-- the gates of a sweep, for the polynomials of its keys and the switch rows
abbrev pub gates_of : (Numbers → List ℕ → List (List ℕ) → List ℕ → List ℕ) → Numbers → List (List ℕ) → List (List ℕ) → List ℕ → Gates
gates_of defined m start keys rows l xs ys = gate_of defined m l start keys rows xs ys

-- a word below q is blank
abbrev pub blank : ℕ → ℕ → Option ℕ
blank q v = cond (nat_lt v q) None (Some v)

-- a call in which each placed word below q is blank
pub data Shape : Type 0 where
  placed : ℕ → List (Option ℕ) → Shape
  other : Asked → Shape

abbrev pub shape : ℕ → Asked → Shape
shape q (placing z ws) = placed z (map (blank q) ws)
shape q (reading x have) = other (reading x have)
shape q (doing o lent) = other (doing o lent)
shape q (ordering bytes lent) = other (ordering bytes lent)

module _ (m : Numbers) (R : ℕ) (s : List ℤ) where
  -- each ciphertext that is accepted holds a bit with noise at most β
  abbrev pub Quiet : List Asked → Type 0
  Quiet [] = Unit {0}
  Quiet (placing z ws ∷ cs) =
      (plain_place (wide m) m.small R z ws ≡ None → (b : Bool) × HoldsBit m m.bound s b ws) × Quiet cs
  Quiet (reading x have ∷ cs) = Quiet cs
  Quiet (doing o lent ∷ cs) = Quiet cs
  Quiet (ordering bytes lent ∷ cs) = Quiet cs

  -- words that hold a bit with noise at most β, and open to it
  abbrev pub Shows : Bool → List ℕ → Type 0
  Shows b ws = HoldsBit m m.bound s b ws × (open_of m ws s ≡ Ok b)

  -- an accepted read gave words that show the bit which the plain machine has there
  abbrev pub ReadShows : Entries → Asked → List ℕ → Type 0
  ReadShows bits (placing z ws) slot = Unit {0}
  ReadShows bits (reading x have) slot =
      plain_read (wide m) R bits x (min have (wide m + 1)) ≡ None → (b : Bool) × ((slice_index_or bits x None ≡ Some b) × Shows b (take (wide m) slot))
  ReadShows bits (doing o lent) slot = Unit {0}
  ReadShows bits (ordering bytes lent) slot = Unit {0}

  -- so does each read of a list of calls, at its call
  abbrev pub ReadsShow : Entries → List Asked → List ℕ → Type 0
  ReadsShow bits [] slots = Unit {0}
  ReadsShow bits (c ∷ cs) slots =
      ReadShows bits c (take (wide m + 1) slots) × ReadsShow (plain_next (held_of m s) m R bits c) cs (drop (wide m + 1) slots)

  -- registers follow bits: every answer is that of the plain machine, the same registers are filled at the end,
  -- each shows its plain bit, and so did every accepted read
  pub record FollowsBits (calls : List Asked) (o : Outcome) : Type 0 where
    pub answered : o.answers ≡ plain_answers (held_of m s) m R (replicate R None) calls
    pub filled : o.marks ≡ map (is_some {T = Bool}) (plain_left (held_of m s) m R (replicate R None) calls)
    pub shown : (x : ℕ) (b : Bool) → slice_index_or (plain_left (held_of m s) m R (replicate R None) calls) x None ≡ Some b → Shows b (row_at (wide m) x o.words)
    pub read : ReadsShow (replicate R None) calls o.reads

-- what a run promises, for a sweep by its definition, stated noise, selectors and messages, over the polynomials of its keys
pub record Promise (defined : Numbers → List ℕ → List (List ℕ) → List ℕ → List ℕ) (noise count : Within → ℕ) (message : Within → List ℤ → ℕ → List ℕ)
    (set : Set) (start keys : List (List ℕ)) (rows : List ℕ) (R : ℕ) (calls : List Asked) (o : Outcome) : Type 0 where
  -- answers, read words, marks and register words are those of the definitions, which name no kernel
  pub ran : o ≡ run_of (gates_of defined (numbers_of set) start keys rows) (numbers_of set) (count set.within) R calls
  -- for all secrets that the keys fit, where the set is checked for the sweep and accepted ciphertexts are quiet
  pub registers_follow_bits : (f s : List ℤ) → set.stated ≡ noise set.within → KeysFit message count set.within f s start keys rows
      → Quiet (numbers_of set) R s calls → FollowsBits (numbers_of set) R s calls o
  -- lists that differ only in placed words below q get the same answers
  pub words_decide_nothing : (others : List Asked) → map (shape (numbers_of set).small) calls ≡ map (shape (numbers_of set).small) others
      → (run_of (gates_of defined (numbers_of set) start keys rows) (numbers_of set) (count set.within) R others).answers ≡ o.answers
