-- What holds of each list of calls on a new file, for any gates.
use Rattle.std.specs.Prelude.{◌≡◌, ℕ, ◌+◌, ◌<◌, min, Bool, List, [], ◌∷◌, map, replicate, Some, None, slice_index_or}
use Rattle.algebra.specs.Polys.{Poly}
use Rattle.set.specs.declared.numbers.Numbers.{Numbers}
use Rattle.registers.specs.Registers.{wide}
use Rattle.registers.specs.Marks.{State}
use Rattle.registers.specs.Steps.{Gates, fresh, refuse_place, refuse_read, words_read}
use Rattle.calls.specs.Plain.{Entries}
use Rattle.calls.specs.Calls.{Asked, placing, reading, doing, ordering, next}
use Rattle.calls.specs.Runs.{answers, left, plain_next, plain_answers, plain_left}
use Rattle.calls.specs.Promise.{shape}
use Rattle.calls.specs.Gated.{OnCalls, NoGates, LongGate, RightGate}
use Rattle.calls.specs.Followed.{Tracks}
use Rattle.calls.specs.Held.{HoldsUnder, Held}

-- for one sense of what words of a bit are, and the bit that is told of the words of a ciphertext
module _ (gates : Gates) (m : Numbers) (count : ℕ) (P : Bool → List ℕ → Type 0) (bit_of : List ℕ → Bool) where
  -- a ciphertext that is accepted has its bit
  abbrev pub Sound : State → Asked → Type 0
  Sound s (placing z ws) = refuse_place m s z ws ≡ None → P (bit_of ws) ws
  Sound s (reading x have) = Unit {0}
  Sound s (doing o lent) = Unit {0}
  Sound s (ordering bytes lent) = Unit {0}

  abbrev pub AllSound : State → List Asked → Type 0
  AllSound s [] = Unit {0}
  AllSound s (c ∷ cs) = Sound s c × AllSound (next gates m count s c) cs

  -- what an accepted read gives has the bit that the plain machine has there at that call
  abbrev pub ReadRight : State → Entries → Asked → Type 0
  ReadRight s bits (placing z ws) = Unit {0}
  ReadRight s bits (reading x have) =
      refuse_read m s x (min have (wide m + 1)) ≡ None → (b : Bool) × ((slice_index_or bits x None ≡ Some b) × P b (words_read m s x))
  ReadRight s bits (doing o lent) = Unit {0}
  ReadRight s bits (ordering bytes lent) = Unit {0}

  abbrev pub AllReadRight : State → Entries → List Asked → Type 0
  AllReadRight s bits [] = Unit {0}
  AllReadRight s bits (c ∷ cs) = ReadRight s bits c × AllReadRight (next gates m count s c) (plain_next bit_of m s.count bits c) cs

-- a list of calls on a new file of R registers, whose gates make n + 1 words: answers are those of the plain bits, the same registers are filled at the end,
-- each holds its bit where all that was accepted does and gates give their bits, every accepted read too, and words below q decide no answer
pub record ListsRight (gates : Gates) (m : Numbers) (count R : ℕ) : Type 0 where
  pub followed : (bit_of : List ℕ → Bool) (calls : List Asked) → OnCalls (LongGate gates m) calls
      → answers gates m count (fresh m R) calls ≡ plain_answers bit_of m R (replicate R None) calls
  pub filled : (bit_of : List ℕ → Bool) (calls : List Asked) → OnCalls (LongGate gates m) calls
      → Tracks m (left gates m count (fresh m R) calls) (plain_left bit_of m R (replicate R None) calls)
  pub held : (secret : Poly) (bit_of : List ℕ → Bool) → 0 < m.small → (calls : List Asked) → OnCalls (RightGate gates m (HoldsUnder m secret)) calls
      → AllSound gates m count (HoldsUnder m secret) bit_of (fresh m R) calls
      → Held m secret (left gates m count (fresh m R) calls) (plain_left bit_of m R (replicate R None) calls)
  pub given : (secret : Poly) (bit_of : List ℕ → Bool) → 0 < m.small → (calls : List Asked) → OnCalls (RightGate gates m (HoldsUnder m secret)) calls
      → AllSound gates m count (HoldsUnder m secret) bit_of (fresh m R) calls
      → AllReadRight gates m count (HoldsUnder m secret) bit_of (fresh m R) (replicate R None) calls
  pub blind : (calls others : List Asked) → OnCalls (LongGate gates m) calls → map (shape m.small) calls ≡ map (shape m.small) others
      → answers gates m count (fresh m R) calls ≡ answers gates m count (fresh m R) others

abbrev pub EveryList : Type 0
EveryList = (gates : Gates) (m : Numbers) (count R : ℕ) → ListsRight gates m count R

-- the same of places, reads, inverts, copies, clears and orders of these, with nothing asked of gates: none is called
pub record GatelessRight (gates : Gates) (m : Numbers) (count R : ℕ) : Type 0 where
  pub followed : (bit_of : List ℕ → Bool) (calls : List Asked) → NoGates calls
      → answers gates m count (fresh m R) calls ≡ plain_answers bit_of m R (replicate R None) calls
  pub filled : (bit_of : List ℕ → Bool) (calls : List Asked) → NoGates calls
      → Tracks m (left gates m count (fresh m R) calls) (plain_left bit_of m R (replicate R None) calls)
  pub held : (secret : Poly) (bit_of : List ℕ → Bool) → 0 < m.small → (calls : List Asked) → NoGates calls
      → AllSound gates m count (HoldsUnder m secret) bit_of (fresh m R) calls
      → Held m secret (left gates m count (fresh m R) calls) (plain_left bit_of m R (replicate R None) calls)
  pub given : (secret : Poly) (bit_of : List ℕ → Bool) → 0 < m.small → (calls : List Asked) → NoGates calls
      → AllSound gates m count (HoldsUnder m secret) bit_of (fresh m R) calls
      → AllReadRight gates m count (HoldsUnder m secret) bit_of (fresh m R) (replicate R None) calls
  pub blind : (calls others : List Asked) → NoGates calls → map (shape m.small) calls ≡ map (shape m.small) others
      → answers gates m count (fresh m R) calls ≡ answers gates m count (fresh m R) others

abbrev pub EveryGateless : Type 0
EveryGateless = (gates : Gates) (m : Numbers) (count R : ℕ) → GatelessRight gates m count R
