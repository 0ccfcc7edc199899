-- Filled registers hold their plain bits.
use Rattle.std.specs.Prelude.{◌≡◌, ℕ, ◌<◌, Bool, List, replicate, Some, None, slice_index_or}
use Rattle.algebra.specs.Polys.{Poly}
use Rattle.algebra.specs.Gates.{Holds}
use Rattle.set.specs.declared.numbers.Numbers.{Numbers}
use Rattle.gate.specs.Letters.{num_of}
use Rattle.registers.specs.declared.op.Op.{Op}
use Rattle.registers.specs.Registers.{wide, row_at}
use Rattle.registers.specs.Marks.{State}
use Rattle.registers.specs.Steps.{Gates, fresh, refuse_place, next_place, refuse_read, words_read}
use Rattle.calls.specs.Plain.{Entries, bits_place, bits_op}
use Rattle.calls.specs.Gated.{OnGate, RightGate}
use Rattle.calls.specs.Followed.{Tracks, next_op}

-- n + 1 words hold a bit under the small secret, given by its coefficients, with noise at most β
abbrev pub HoldsUnder : Numbers → Poly → Bool → List ℕ → Type 0
HoldsUnder m secret b ws = Holds m.dimension m.small m.bound secret (num_of b) ws

-- every register whose entry is a bit has words of that bit, in one sense of what words of a bit are
abbrev pub HeldAs : Numbers → (Bool → List ℕ → Type 0) → State → Entries → Type 0
HeldAs m P s bits = (x : ℕ) (b : Bool) → x < s.count → slice_index_or bits x None ≡ Some b → P b (row_at (wide m) x s.words)

-- every register whose entry is a bit holds that bit
abbrev pub Held : Numbers → Poly → State → Entries → Type 0
Held m secret s bits = HeldAs m (HoldsUnder m secret) s bits

-- a new file holds nothing; each call keeps what is held, where an accepted ciphertext holds the bit that is entered for it
-- and a gate gives its bit; and what an accepted read gives holds the bit of the entry
pub record BitsHeld : Type 0 where
  pub begins : (m : Numbers) (secret : Poly) (count : ℕ) → Held m secret (fresh m count) (replicate count None)
  pub placed : (m : Numbers) (secret : Poly) (s : State) (bits : Entries) → Tracks m s bits → Held m secret s bits
      → (z : ℕ) (ws : List ℕ) (bit : Bool) → (refuse_place m s z ws ≡ None → HoldsUnder m secret bit ws)
      → Held m secret (next_place m s z ws) (bits_place (wide m) m.small s.count bits z ws bit)
  pub operated : (gates : Gates) (m : Numbers) (secret : Poly) (s : State) (bits : Entries) → 0 < m.small → Tracks m s bits → Held m secret s bits
      → (op : Op) → OnGate (RightGate gates m (HoldsUnder m secret)) op → Held m secret (next_op gates m s op) (bits_op s.count bits op)
  pub read : (m : Numbers) (secret : Poly) (s : State) (bits : Entries) → 0 < m.small → Tracks m s bits → Held m secret s bits
      → (x have : ℕ) → refuse_read m s x have ≡ None → (b : Bool) × ((slice_index_or bits x None ≡ Some b) × HoldsUnder m secret b (words_read m s x))
