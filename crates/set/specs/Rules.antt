-- The rules of a set whose numbers are within their limits: cover, root and closing.
use Rattle.std.specs.Prelude.{◌≡◌, ℕ, ◌+◌, ◌-◌, ◌*◌, ◌%◌, ◌^◌, ◌≤◌, ◌⊎◌, None, Option, ◌==◌, ◌≢◌, nat_le}
use Rattle.faults.specs.declared.fault.Fault.{Fault}
use Rattle.faults.specs.declared.fault.Fault.TheVariants.{Cover, Root, Closing}
use Rattle.faults.specs.Least.{or_else, unless}
use Rattle.words.specs.Gadgets.{covers}
use Rattle.set.specs.declared.numbers.Numbers.{Numbers}
use Rattle.set.specs.Limits.{Limits, WrongLimits, limits_broken}
use Rattle.set.specs.Noise.{swept_noise, switch_noise}

-- R ≤ P × B^d ≤ 2^40
abbrev pub Covers : ℕ → ℕ → ℕ → ℕ → Type 0
Covers R P B d = (R ≤ P * B ^ d) × (P * B ^ d ≤ 2 ^ 40)

-- the closing conditions: the swept noise and the switched noise leave room, and all noises together stay within β
abbrev pub SweptCloses : Numbers → ℕ → Type 0
SweptCloses n stated = 8 * (swept_noise n stated + 2) ≤ n.modulus

abbrev pub SwitchCloses : Numbers → Type 0
SwitchCloses n = 1 + n.weight + 2 * switch_noise n ≤ n.switch

abbrev pub gate_noise : Numbers → ℕ → ℕ
gate_noise n stated =
    2 * n.small * n.switch * (swept_noise n stated + 2)
    + n.small * n.modulus * (1 + n.weight + 2 * switch_noise n)
    + n.modulus * n.switch * (1 + n.ones)

abbrev pub GateCloses : Numbers → ℕ → Type 0
GateCloses n stated = gate_noise n stated ≤ 2 * n.modulus * n.switch * n.bound

-- every rule of a set, for a stated noise
pub record Rules (n : Numbers) (stated : ℕ) : Type 0 where
  pub limits : Limits n
  pub cover : Covers n.modulus n.dropped n.base n.digits
  pub switch_cover : Covers n.switch 1 n.radix n.places
  pub wraps : n.root ^ n.degree % n.modulus ≡ n.modulus - 1
  pub swept : SweptCloses n stated
  pub switched : SwitchCloses n
  pub closes : GateCloses n stated

-- every fault beyond the limits that is true of sixteen numbers and a stated noise
abbrev pub WrongRules : Numbers → ℕ → Fault → Type 0
WrongRules n stated g =
    ((g ≡ Cover 7) × (Covers n.modulus n.dropped n.base n.digits → ⊥))
    ⊎ (((g ≡ Cover 13) × (Covers n.switch 1 n.radix n.places → ⊥))
    ⊎ (((g ≡ Root) × (n.root ^ n.degree % n.modulus ≢ n.modulus - 1))
    ⊎ (((g ≡ Closing 0) × (SweptCloses n stated → ⊥))
    ⊎ (((g ≡ Closing 1) × (SwitchCloses n → ⊥))
    ⊎ ((g ≡ Closing 2) × (GateCloses n stated → ⊥))))))

-- the first closing condition that fails
abbrev pub closing_broken : Numbers → ℕ → Option Fault
closing_broken n stated =
    or_else (unless (nat_le (8 * (swept_noise n stated + 2)) n.modulus) (Closing 0))
    (or_else (unless (nat_le (1 + n.weight + 2 * switch_noise n) n.switch) (Closing 1))
    (unless (nat_le (gate_noise n stated) (2 * n.modulus * n.switch * n.bound)) (Closing 2)))

-- the first rule beyond the limits that is broken: cover, root, closing
unfoldable pub rules_broken : Numbers → ℕ → Option Fault
rules_broken n stated =
    or_else (unless (covers n.modulus n.dropped n.base n.digits) (Cover 7))
    (or_else (unless (covers n.switch 1 n.radix n.places) (Cover 13))
    (or_else (unless (n.root ^ n.degree % n.modulus == n.modulus - 1) Root)
    (closing_broken n stated)))

-- no number is outside just where each is within its limits, and no rule is broken just where each is kept
abbrev pub LimitsTold : Numbers → Type 0
LimitsTold n = (limits_broken n ≡ None → Limits n) × (Limits n → limits_broken n ≡ None)

abbrev pub RulesTold : Numbers → ℕ → Type 0
RulesTold n stated = (rules_broken n stated ≡ None → Rules n stated) × (Rules n stated → rules_broken n stated ≡ None)

-- a set checked from numbers: limits first, then the rules
abbrev pub set_broken : Numbers → ℕ → Option Fault
set_broken n stated = or_else (limits_broken n) (rules_broken n stated)

abbrev pub WrongSet : Numbers → ℕ → Fault → Type 0
WrongSet n stated g = WrongLimits n g ⊎ WrongRules n stated g
