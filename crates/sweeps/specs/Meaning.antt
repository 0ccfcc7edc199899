-- What every sweep owes: its meaning under the secrets, and that its definition gives polynomials.
use Rattle.std.specs.Prelude.{◌≡◌, ℕ, suc, ◌+◌, ◌-◌, ◌*◌, ◌/◌, ◌%◌, ◌^◌, ◌≤◌, List, [], ◌∷◌, length, ℤ, pos, negsuc, Option, ◌==◌}
use Rattle.faults.specs.declared.fault.Fault.{Fault}
use Rattle.faults.specs.declared.fault.Fault.TheVariants.{Length}
use Rattle.faults.specs.declared.fault.Layer.TheVariants.{Sweep}
use Rattle.faults.specs.Least.{unless, or_else}
use Rattle.algebra.specs.Words.{coeffs}
use Rattle.algebra.specs.Sweeps.{Carries}
use Rattle.kernels.specs.Polynomials.{IsPoly}
use Rattle.set.specs.declared.numbers.Numbers.{Numbers}
use Rattle.set.specs.declared.within.Within.{Within}
use Rattle.set.specs.declared.checked.Set.{Set}
use Rattle.sweeps.specs.Fit.{entries, FitsSweep}
use Rattle.sweeps.specs.Forms.{ArePolys}

-- Y = X^(2N/q): the power of X that Y^e is
abbrev pub turns : Numbers → ℕ → ℕ
turns n e = (n.degree + n.degree) / n.small * e

-- an exponent times an entry of the small secret, counted modulo q
abbrev pub turn_by : ℕ → ℕ → ℤ → ℕ
turn_by q e (pos k) = e * k
turn_by q e (negsuc k) = (q - e % q) * suc k

-- the sum of all exponents times their entries
unfoldable pub turn_sum : ℕ → List ℕ → List ℤ → ℕ
turn_sum q [] s = 0
turn_sum q (e ∷ es) [] = 0
turn_sum q (e ∷ es) (z ∷ s) = turn_by q e z + turn_sum q es s

-- for all secrets that the keys fit, f × new = Y^(sum of exponent × entry) × f × old, up to the stated noise
abbrev pub Means : (Numbers → List ℕ → List (List ℕ) → List ℕ → List ℕ) → (Within → ℕ) → (Within → ℕ) → (Within → List ℤ → ℕ → List ℕ) → Type 0
Means defined noise count message =
    (set : Set) (f s : List ℤ) (exponents : List ℕ) (keys : List (List ℕ)) (old : List ℕ)
    → length exponents ≡ set.within.numbers.dimension
    → length keys ≡ count set.within * set.within.numbers.digits
    → ArePolys set.within.numbers.degree set.within.numbers.modulus keys
    → IsPoly set.within.numbers.degree set.within.numbers.modulus old
    → FitsSweep message count set.within f s keys
    → Carries set.within.numbers.modulus set.within.numbers.degree (entries f)
    (turns set.within.numbers (turn_sum set.within.numbers.small exponents s)) (noise set.within)
    (coeffs old) (coeffs (defined set.within.numbers exponents keys old))

-- of right lists of polynomials the new accumulator is a polynomial
abbrev pub Closed : (Numbers → List ℕ → List (List ℕ) → List ℕ → List ℕ) → (Within → ℕ) → Type 0
Closed defined count =
    (set : Set) (exponents : List ℕ) (keys : List (List ℕ)) (old : List ℕ)
    → length exponents ≡ set.within.numbers.dimension
    → length keys ≡ count set.within * set.within.numbers.digits
    → ArePolys set.within.numbers.degree set.within.numbers.modulus keys
    → IsPoly set.within.numbers.degree set.within.numbers.modulus old
    → IsPoly set.within.numbers.degree set.within.numbers.modulus (defined set.within.numbers exponents keys old)

-- the limits of stated noise and selectors, and each message a polynomial
abbrev pub Few : (Within → ℕ) → (Within → ℕ) → Type 0
Few noise count = (w : Within) → (noise w ≤ 2 ^ 55) × (count w ≤ 2 ^ 14)

abbrev pub Told : (Within → List ℤ → ℕ → List ℕ) → Type 0
Told message = (w : Within) (s : List ℤ) (j : ℕ) → IsPoly w.numbers.degree w.numbers.modulus (message w s j)

-- the lists of a sweep: accumulator, exponents, selectors, work memory, scratch
abbrev pub sweep_refused : Numbers → ℕ → ℕ → ℕ → ℕ → ℕ → ℕ → Option Fault
sweep_refused n count acc exponents keys work scratch =
    or_else (unless (acc == n.degree) (Length 0 Sweep))
    (or_else (unless (exponents == n.dimension) (Length 1 Sweep))
    (or_else (unless (keys == count * n.digits * n.degree) (Length 2 Sweep))
    (or_else (unless (work == (n.digits + 1) * n.degree) (Length 3 Sweep))
    (unless (scratch == n.degree) (Length 4 Sweep)))))

-- the lists of a message: the small secret, and N words for the message
abbrev pub message_refused : Numbers → ℕ → ℕ → Option Fault
message_refused n s out =
    or_else (unless (s == n.dimension) (Length 0 Sweep)) (unless (out == n.degree) (Length 1 Sweep))
