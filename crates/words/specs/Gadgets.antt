-- The numbers of a gadget: when they are refused, and what its digits promise.
use Rattle.std.specs.Prelude.{◌≡◌, ℕ, ◌*◌, ◌/◌, ◌%◌, ◌^◌, ◌<◌, ◌≤◌, Bool, ◌&&◌, ◌⊎◌, ℤ, pos, ◌+ℤ◌, ◌-ℤ◌, ◌*ℤ◌, neg_ℤ, ◌≤ℤ◌, ◌<ℤ◌, Option, ◌==◌, ◌≢◌, nat_le}
use Rattle.std.specs.List.{AllByRecursion}
use Rattle.faults.specs.declared.fault.Fault.{Fault}
use Rattle.faults.specs.declared.fault.Fault.TheVariants.{Field, Cover, Length}
use Rattle.faults.specs.declared.fault.Layer.TheVariants.{Digits}
use Rattle.faults.specs.Least.{unless, or_else}
use Rattle.words.specs.Powers.{Power, power_within, within}
use Rattle.words.specs.Moduli.{ring_modulus, switch_modulus}
use Rattle.words.specs.Digits.{centred_of, value_of, split_of}

-- the digits reach: R ≤ P × B^d ≤ 2^40
abbrev pub covers : ℕ → ℕ → ℕ → ℕ → Bool
covers R P B d = nat_le R (P * B ^ d) && nat_le (P * B ^ d) (2 ^ 40)

-- why the numbers of a ring's gadget are refused
abbrev pub ring_gadget_broken : ℕ → ℕ → ℕ → ℕ → Option Fault
ring_gadget_broken Q P B d =
    or_else (unless (ring_modulus Q) (Field 3))
    (or_else (unless (power_within 1 65536 P) (Field 5))
    (or_else (unless (power_within 2 65536 B) (Field 6))
    (or_else (unless (within 1 31 d) (Field 7))
    (unless (covers Q P B d) (Cover 7)))))

-- why the numbers of a switch gadget are refused
abbrev pub switch_gadget_broken : ℕ → ℕ → ℕ → Option Fault
switch_gadget_broken M C k =
    or_else (unless (switch_modulus M) (Field 11))
    (or_else (unless (power_within 2 1024 C) (Field 12))
    (or_else (unless (within 1 20 k) (Field 13))
    (unless (covers M 1 C k) (Cover 13))))

-- what is wrong with them, in the words of the rules
abbrev pub WrongRingGadget : ℕ → ℕ → ℕ → ℕ → Fault → Type 0
WrongRingGadget Q P B d g =
    ((g ≡ Field 3) × (((Q % 2 ≡ 1) × ((17 ≤ Q) × (Q < 2 ^ 31))) → ⊥))
    ⊎ (((g ≡ Field 5) × ((Power P × ((1 ≤ P) × (P ≤ 65536))) → ⊥))
    ⊎ (((g ≡ Field 6) × ((Power B × ((2 ≤ B) × (B ≤ 65536))) → ⊥))
    ⊎ (((g ≡ Field 7) × (((1 ≤ d) × (d ≤ 31)) → ⊥))
    ⊎ ((g ≡ Cover 7) × (((Q ≤ P * B ^ d) × (P * B ^ d ≤ 2 ^ 40)) → ⊥)))))

abbrev pub WrongSwitchGadget : ℕ → ℕ → ℕ → Fault → Type 0
WrongSwitchGadget M C k g =
    ((g ≡ Field 11) × ((Power M × ((32 ≤ M) × (M ≤ 2 ^ 20))) → ⊥))
    ⊎ (((g ≡ Field 12) × ((Power C × ((2 ≤ C) × (C ≤ 1024))) → ⊥))
    ⊎ (((g ≡ Field 13) × (((1 ≤ k) × (k ≤ 20)) → ⊥))
    ⊎ ((g ≡ Cover 13) × (((M ≤ 1 * C ^ k) × (1 * C ^ k ≤ 2 ^ 40)) → ⊥))))

-- one step of the split: digit and rest make the number, and the digit lies from -B/2 to B/2 - 1
pub record StepRight (B : ℕ) (u digit rest : ℤ) : Type 0 where
  pub whole : digit +ℤ pos B *ℤ rest ≡ u
  pub low : neg_ℤ (pos (B / 2)) ≤ℤ digit
  pub high : digit <ℤ pos (B / 2)

-- a number from -b to b
abbrev pub Within : ℕ → ℤ → Type 0
Within b z = (neg_ℤ (pos b) ≤ℤ z) × (z ≤ℤ pos b)

-- the digits of a word x: each from -B/2 to B/2, and P times their value is x, centred, but for at most G = P/2
pub record SplitRight (R P B d x : ℕ) : Type 0 where
  pub small : AllByRecursion (Within (B / 2)) (split_of R P B d x)
  pub near : Within (P / 2) (pos P *ℤ value_of B (split_of R P B d x) -ℤ centred_of R x)

-- the representative of a word: above -R/2, at most R/2, and the word but for a multiple of R
pub record Centred (R x : ℕ) (v : ℤ) : Type 0 where
  pub above : neg_ℤ (pos R) <ℤ (v +ℤ v)
  pub at_most : (v +ℤ v) ≤ℤ pos R
  pub times : ℤ
  pub same : pos x ≡ v +ℤ pos R *ℤ times

-- the one list of a split has d places
abbrev pub split_refused : ℕ → ℕ → Option Fault
split_refused d n = unless (n == d) (Length 0 Digits)

abbrev pub WrongSplit : ℕ → ℕ → Fault → Type 0
WrongSplit d n g = (g ≡ Length 0 Digits) × (n ≢ d)

-- a gadget made of these numbers: modulus R, dropped part P, base B and d digits
abbrev pub Splits : ℕ → ℕ → ℕ → ℕ → ℕ → ℕ → ℕ → ℕ → Type 0
Splits R P B d modulus shift width digits = (modulus ≡ R) × (2 ^ shift ≡ P) × (2 ^ width ≡ B) × (digits ≡ d)
