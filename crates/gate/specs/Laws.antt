-- The laws of bits that words hold, and of the phase after each stage.
use Rattle.std.specs.Prelude.{◌≡◌, ℕ, ◌+◌, ◌*◌, ◌/◌, ◌<◌, ◌≤◌, Bool, true, not, List, length, ℤ, pos, ◌+ℤ◌, ◌-ℤ◌, ◌*ℤ◌, Ok, slice_index, unsigned_abs}
use Rattle.algebra.specs.Ints.{Cong}
use Rattle.algebra.specs.Polys.{power, mul}
use Rattle.algebra.specs.Near.{Near, Nearby}
use Rattle.algebra.specs.Words.{coeffs}
use Rattle.algebra.specs.Gates.{test, phase, Rounds}
use Rattle.set.specs.declared.within.Within.{Within}
use Rattle.set.specs.declared.checked.Set.{Set}
use Rattle.set.specs.Noise.{drop_of, switch_noise}
use Rattle.sweeps.specs.Fit.{entries, RingSecret, SmallSecret, FitsStart}
use Rattle.sweeps.specs.Meaning.{turns}
use Rattle.gate.specs.declared.letter.Letter.{Letter}
use Rattle.gate.specs.Letters.{offset_of, times_of}
use Rattle.gate.specs.Stages.{combined_of, inverted_of, started_of, extracted_of, narrowed_of, switched_of, finished_of}
use Rattle.gate.specs.Bits.{HoldsBit, room_of, held_of, open_of, seal_of}
use Rattle.gate.specs.Gates.{FitsRows}

pub record BitLaws : Type 0 where
  -- a noise may be overstated, and β is one that a gate takes
  pub more : (w : Within) (s : List ℤ) (xs : List ℕ) (m : Bool) (V W : ℕ) → V ≤ W → HoldsBit w.numbers V s m xs → HoldsBit w.numbers W s m xs
  pub room : (w : Within) → (w.numbers.bound ≤ room_of w.numbers) × (room_of w.numbers < w.numbers.small / 8)
  -- words hold one bit at most
  pub one : (w : Within) (s : List ℤ) (xs : List ℕ) (a b : Bool) (V W : ℕ) → SmallSecret w.numbers s
      → V < w.numbers.small / 8 → W < w.numbers.small / 8 → HoldsBit w.numbers V s a xs → HoldsBit w.numbers W s b xs → a ≡ b
  -- the bit that words hold is told, and 1 is told of no others
  pub held : (w : Within) (s : List ℤ) (xs : List ℕ) (m : Bool) → HoldsBit w.numbers (room_of w.numbers) s m xs → held_of w.numbers s xs ≡ m
  pub holds : (w : Within) (s : List ℤ) (xs : List ℕ) → held_of w.numbers s xs ≡ true → HoldsBit w.numbers (room_of w.numbers) s true xs
  -- opening gives the bit that n + 1 words below q hold
  pub opens : (w : Within) (s : List ℤ) (xs : List ℕ) (m : Bool) (V : ℕ) → SmallSecret w.numbers s
      → length xs ≡ w.numbers.dimension + 1 → ((k : ℕ) → k < length xs → slice_index xs k < w.numbers.small)
      → V < w.numbers.small / 8 → HoldsBit w.numbers V s m xs → open_of w.numbers xs s ≡ Ok m
  -- sealed words are n + 1 below q, and hold their bit with their noise
  pub sealed : (w : Within) (s random : List ℤ) (m : Bool) (e : ℤ) → HoldsBit w.numbers (unsigned_abs e) s m (seal_of w.numbers m s random e)
  pub sealed_long : (w : Within) (s random : List ℤ) (m : Bool) (e : ℤ) → length (seal_of w.numbers m s random e) ≡ w.numbers.dimension + 1
  pub sealed_below : (w : Within) (s random : List ℤ) (m : Bool) (e : ℤ) (k : ℕ) → k < w.numbers.dimension + 1
      → slice_index (seal_of w.numbers m s random e) k < w.numbers.small
  -- invert gives the opposite bit, with the same noise
  pub inverts : (w : Within) (s : List ℤ) (xs : List ℕ) (m : Bool) (V : ℕ) → HoldsBit w.numbers V s m xs
      → HoldsBit w.numbers V s (not m) (inverted_of w.numbers xs)

-- the phase after each stage; that of the sweep is the law of every sweep
pub record PhaseLaws : Type 0 where
  pub combined : (w : Within) (l : Letter) (s : List ℤ) (xs ys : List ℕ)
      → Cong w.numbers.small (phase w.numbers.dimension (entries s) (coeffs (combined_of w.numbers l xs ys)))
      (pos (offset_of l * (w.numbers.small / 8))
      -ℤ pos (times_of l) *ℤ (phase w.numbers.dimension (entries s) (coeffs xs) +ℤ phase w.numbers.dimension (entries s) (coeffs ys)))
  -- f times the first accumulator is Y^b times the test polynomial, up to the noise of the start key
  pub started : (set : Set) (f : List ℤ) (start : List (List ℕ)) (zs : List ℕ) → FitsStart set.within.numbers f start
      → Nearby set.within.numbers.modulus set.within.numbers.degree
      (set.within.numbers.degree * set.within.numbers.digits * (set.within.numbers.base / 2) * set.within.numbers.noise + drop_of set.within.numbers)
      (mul set.within.numbers.degree (entries f) (coeffs (started_of set.within.numbers start zs)))
      (power set.within.numbers.degree (turns set.within.numbers (slice_index zs set.within.numbers.dimension))
      (test set.within.numbers.degree (pos (set.within.numbers.modulus / 8))))
  -- the phase of the extracted words under f is δ more than the constant coefficient of f times the accumulator
  pub extracted : (w : Within) (f : List ℤ) (acc : List ℕ)
      → Cong w.numbers.modulus (phase w.numbers.degree (entries f) (coeffs (extracted_of w.numbers acc)))
      (pos (w.numbers.modulus / 8) +ℤ mul w.numbers.degree (entries f) (coeffs acc) 0)
  -- rounding to M, with at most F words that count
  pub narrowed : (w : Within) (f : List ℤ) (xs : List ℕ) (x : ℤ) → RingSecret w.numbers f
      → Cong w.numbers.modulus (phase w.numbers.degree (entries f) (coeffs xs)) x
      → Rounds w.numbers.modulus w.numbers.switch w.numbers.weight x (phase w.numbers.degree (entries f) (coeffs (narrowed_of w.numbers xs)))
  -- the phase under s is that under f, up to W
  pub switched : (set : Set) (f s : List ℤ) (rows xs : List ℕ) → FitsRows set.within.numbers f s rows
      → Near set.within.numbers.switch (switch_noise set.within.numbers)
      (phase set.within.numbers.dimension (entries s) (coeffs (switched_of set.within.numbers rows xs)))
      (phase set.within.numbers.degree (entries f) (coeffs xs))
  -- rounding to q, with at most h words that count
  pub finished : (w : Within) (s : List ℤ) (xs : List ℕ) (x : ℤ) → SmallSecret w.numbers s
      → Cong w.numbers.switch (phase w.numbers.dimension (entries s) (coeffs xs)) x
      → Rounds w.numbers.switch w.numbers.small w.numbers.ones x (phase w.numbers.dimension (entries s) (coeffs (finished_of w.numbers xs)))
