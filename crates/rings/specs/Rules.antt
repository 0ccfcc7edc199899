-- The rules of a ring alone: its degree N, its modulus Q and its root ψ.
use Rattle.std.specs.Prelude.{◌≡◌, ℕ, ◌-◌, ◌%◌, ◌^◌, ◌<◌, ◌≤◌, Bool, false, cond, ◌⊎◌, Option, ◌==◌, nat_lt}
use Rattle.faults.specs.declared.fault.Fault.{Fault}
use Rattle.faults.specs.declared.fault.Fault.TheVariants.{Field, Root}
use Rattle.faults.specs.Least.{or_else, unless}

-- N is a power of two from 4 to 1,024
abbrev pub IsDegree : ℕ → Type 0
IsDegree N = (k : ℕ) × (2 ≤ k) × (k ≤ 10) × (N ≡ 2 ^ k)

-- Q is odd, from 17 to 2^31 - 1
abbrev pub IsModulus : ℕ → Type 0
IsModulus Q = (Q % 2 ≡ 1) × (17 ≤ Q) × (Q < 2 ^ 31)

-- ψ lies from 1 to Q - 1
abbrev pub IsRoot : ℕ → ℕ → Type 0
IsRoot Q ψ = (1 ≤ ψ) × (ψ < Q)

-- ψ^N leaves Q - 1 modulo Q
abbrev pub Wraps : ℕ → ℕ → ℕ → Type 0
Wraps N Q ψ = ψ ^ N % Q ≡ Q - 1

-- every fault that is true of three numbers, in no order
abbrev pub WrongRing : ℕ → ℕ → ℕ → Fault → Type 0
WrongRing N Q ψ g =
    ((g ≡ Field 0) × (IsDegree N → ⊥))
    ⊎ (((g ≡ Field 3) × (IsModulus Q → ⊥))
    ⊎ (((g ≡ Field 4) × (IsRoot Q ψ → ⊥))
    ⊎ ((g ≡ Root) × (Wraps N Q ψ → ⊥))))

-- the logarithm of a legal degree, and 0 for any other number
abbrev pub log_of : ℕ → ℕ
log_of N =
    cond (N == 4) 2
    (cond (N == 8) 3
    (cond (N == 16) 4
    (cond (N == 32) 5
    (cond (N == 64) 6
    (cond (N == 128) 7
    (cond (N == 256) 8
    (cond (N == 512) 9
    (cond (N == 1024) 10 0))))))))

abbrev pub fits_modulus : ℕ → Bool
fits_modulus Q = cond (Q % 2 == 0) false (cond (nat_lt Q 17) false (nat_lt Q 2147483648))

abbrev pub fits_root : ℕ → ℕ → Bool
fits_root Q ψ = cond (ψ == 0) false (nat_lt ψ Q)

-- the rule that three numbers break first, and so what is answered
abbrev pub ring_broken : ℕ → ℕ → ℕ → Option Fault
ring_broken N Q ψ =
    or_else (unless (nat_lt 0 (log_of N)) (Field 0))
    (or_else (unless (fits_modulus Q) (Field 3))
    (or_else (unless (fits_root Q ψ) (Field 4))
    (unless (ψ ^ N % Q == Q - 1) Root)))
