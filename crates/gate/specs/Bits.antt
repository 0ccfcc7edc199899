-- Words that hold a bit under the small secret: phases, sealing and opening.
use Rattle.std.specs.Prelude.{ℕ, suc, ◌+◌, ◌-◌, ◌*◌, ◌/◌, Bool, true, false, cond, ◌&&◌, List, [], ◌∷◌, length, ℤ, pos, negsuc, ◌+ℤ◌, ◌-ℤ◌, ◌*ℤ◌, Some, None, Ok, Err, Option, Result, ◌==◌, nat_le, nat_lt}
use Rattle.faults.specs.declared.fault.Fault.{Fault}
use Rattle.faults.specs.declared.fault.Fault.TheVariants.{Length, CipherWord, Secret, Phase}
use Rattle.faults.specs.declared.fault.Layer.TheVariants.{Secrets}
use Rattle.faults.specs.Least.{or_else, unless}
use Rattle.algebra.specs.Ints.{sum_z}
use Rattle.algebra.specs.Polys.{nonzeros}
use Rattle.algebra.specs.Words.{coeffs, word_of, words}
use Rattle.algebra.specs.Gates.{phase, Holds}
use Rattle.set.specs.declared.numbers.Numbers.{Numbers}
use Rattle.sweeps.specs.Fit.{entries}
use Rattle.gate.specs.Letters.{num_of}

-- the phase of n + 1 words under s, below q: the last word plus the sum of a_i s_i
unfoldable pub phase_of : Numbers → List ℤ → List ℕ → ℕ
phase_of n s xs = word_of n.small (phase n.dimension (entries s) (coeffs xs))

-- words hold the bit m under s with noise at most V: their phase is m q/4 + e modulo q, with e from -V to V
abbrev pub HoldsBit : Numbers → ℕ → List ℤ → Bool → List ℕ → Type 0
HoldsBit n V s m xs = Holds n.dimension n.small V (entries s) (num_of m) xs

-- the noise that a gate takes: q/16 - 1
abbrev pub room_of : Numbers → ℕ
room_of n = n.small / 16 - 1

-- the bit that words hold with noise at most q/16 - 1, and 0 where they hold none
abbrev pub held_of : Numbers → List ℤ → List ℕ → Bool
held_of n s xs = nat_le (n.small / 4 - room_of n) (phase_of n s xs) && nat_le (phase_of n s xs) (n.small / 4 + room_of n)

-- the first word, counted from i on, that is not below q
abbrev pub words_broken : ℕ → ℕ → List ℕ → Option Fault
words_broken q i [] = None
words_broken q i (x ∷ xs) = or_else (unless (nat_lt x q) (CipherWord i Secrets)) (words_broken q (i + 1) xs)

-- 0 or 1
abbrev pub is_bit : ℤ → Bool
is_bit (pos k) = nat_lt k 2
is_bit (negsuc k) = false

-- the first entry of list l, counted from i on, that is not 0 or 1
abbrev pub entries_broken : ℕ → ℕ → List ℤ → Option Fault
entries_broken l i [] = None
entries_broken l i (z ∷ s) = or_else (unless (is_bit z) (Secret l i)) (entries_broken l (i + 1) s)

-- why a small secret, list l of a call, is refused: an entry, or more ones than h
abbrev pub secret_broken : Numbers → ℕ → List ℤ → Option Fault
secret_broken n l s =
    or_else (entries_broken l 0 s) (unless (nat_le (nonzeros n.dimension (entries s)) n.ones) (Secret l (length s)))

-- what a phase opens to: 0 from -q/8 on, 1 from q/8 on, below 3q/8
abbrev pub opened_at : ℕ → ℕ → Result Bool Fault
opened_at q φ = cond (nat_lt φ (q / 8)) (Ok false) (cond (nat_lt φ (3 * (q / 8))) (Ok true) (cond (nat_lt φ (7 * (q / 8))) (Err (Phase φ)) (Ok false)))

-- why opening is refused before the phase is looked at: lengths, words, the secret
abbrev pub open_broken : Numbers → List ℕ → List ℤ → Option Fault
open_broken n xs s =
    or_else (unless (length xs == n.dimension + 1) (Length 0 Secrets))
    (or_else (unless (length s == n.dimension) (Length 1 Secrets))
    (or_else (words_broken n.small 0 xs) (secret_broken n 1 s)))

abbrev pub unless_broken : {X : Type 0} → Option Fault → Result X Fault → Result X Fault
unless_broken None r = r
unless_broken (Some f) r = Err f

-- what opening answers
abbrev pub open_of : Numbers → List ℕ → List ℤ → Result Bool Fault
open_of n xs s = unless_broken (open_broken n xs s) (opened_at n.small (phase_of n s xs))

-- the words of the bit m sealed with n random words and the noise e: the last is m q/4 + e - the sum of a_i s_i
unfoldable pub seal_of : Numbers → Bool → List ℤ → List ℤ → ℤ → List ℕ
seal_of n m s random e =
    words (suc n.dimension) n.small (λ j. cond (j == n.dimension)
    (pos (num_of m * (n.small / 4)) +ℤ e -ℤ sum_z n.dimension (λ i. entries s i *ℤ entries random i)) (entries random j))
