-- The worked cases: what the definitions give, beside what was worked out by hand.
use Rattle.std.specs.Prelude.{◌≡◌, ℕ, ◌^◌, List, [], ◌∷◌, map, ℤ, pos, negsuc, Some, None, Option}
use Rattle.faults.specs.declared.fault.Place.{Place}
use Rattle.faults.specs.declared.fault.Place.TheVariants.{At, Entry}
use Rattle.faults.specs.declared.fault.Fault.{Fault}
use Rattle.faults.specs.Causes.{number_of, place_of}
use Rattle.algebra.specs.Words.{product}
use Rattle.algebra.specs.Gates.{extract}
use Rattle.words.specs.Digits.{split_of}
use Rattle.words.specs.Rounding.{rounded_to}
use Rattle.set.specs.declared.numbers.Numbers.{Numbers}
use Rattle.set.specs.Noise.{swept_noise, switch_noise, paired_noise}
use Rattle.set.specs.Rules.{set_broken}

-- the large set and the toy set, at a noise bound β
abbrev pub large : ℕ → Numbers
large β = record {
  degree = 1024;
  dimension = 512;
  small = 2048;
  modulus = 2013265921;
  root = 1340477990;
  dropped = 32;
  base = 4;
  digits = 13;
  noise = 1;
  weight = 256;
  ones = 64;
  switch = 1048576;
  radix = 4;
  places = 10;
  jitter = 1;
  bound = β;
}

abbrev pub toy : ℕ → Numbers
toy β = record {
  degree = 64;
  dimension = 8;
  small = 128;
  modulus = 2013265921;
  root = 397765732;
  dropped = 2048;
  base = 16;
  digits = 5;
  noise = 1;
  weight = 32;
  ones = 4;
  switch = 1048576;
  radix = 32;
  places = 4;
  jitter = 1;
  bound = β;
}

-- a refusal as its number and place, and none as nothing
abbrev placed : Place → List ℤ
placed (At p) = pos p ∷ []
placed (Entry l e) = pos l ∷ pos e ∷ []

abbrev refused : Option Fault → List ℤ
refused None = []
refused (Some f) = pos (number_of f) ∷ placed (place_of f)

-- a set checked for the paired sweep
abbrev pub paired_set : Numbers → List ℤ
paired_set n = refused (set_broken n (paired_noise n))

-- V and W of a set checked for the paired sweep
abbrev pub noises : Numbers → List ℤ
noises n = pos (swept_noise n (paired_noise n)) ∷ pos (switch_noise n) ∷ []

pub record Case : Type 0 where
  pub gives : List ℤ
  pub wanted : List ℤ

abbrev pub case : List ℤ → List ℤ → Case
case g w = record { gives = g; wanted = w }

unfoldable pub worked : List Case
worked =
    -- digits of words modulo 17, P = 2, B = 4, d = 2
    case (split_of 17 2 4 2 7) (pos 0 ∷ pos 1 ∷ [])
    ∷ case (split_of 17 2 4 2 13) (negsuc 1 ∷ pos 0 ∷ [])
    ∷ case (split_of 17 2 4 2 16) (pos 0 ∷ pos 0 ∷ [])
    -- (1 + 2 X)(3 + X^3) = 1 + 6 X + X^3, and X^3 × X^2 = -X, modulo X^4 + 1 and 17
    ∷ case (map pos (product 4 17 (1 ∷ 2 ∷ 0 ∷ 0 ∷ []) (3 ∷ 0 ∷ 0 ∷ 1 ∷ []))) (pos 1 ∷ pos 6 ∷ pos 0 ∷ pos 1 ∷ [])
    ∷ case (map pos (product 4 17 (0 ∷ 0 ∷ 0 ∷ 1 ∷ []) (0 ∷ 0 ∷ 1 ∷ 0 ∷ []))) (pos 0 ∷ pos 16 ∷ pos 0 ∷ pos 0 ∷ [])
    -- rounding from 2^20 to 128
    ∷ case (pos (rounded_to (2 ^ 20) 128 4095) ∷ []) (pos 0 ∷ [])
    ∷ case (pos (rounded_to (2 ^ 20) 128 4096) ∷ []) (pos 1 ∷ [])
    ∷ case (pos (rounded_to (2 ^ 20) 128 1044480) ∷ []) (pos 0 ∷ [])
    -- sample extraction from 5 + 6 X + 7 X^2 + 8 X^3 modulo X^4 + 1 and 17
    ∷ case (map pos (extract 4 17 (5 ∷ 6 ∷ 7 ∷ 8 ∷ []))) (pos 5 ∷ pos 9 ∷ pos 10 ∷ pos 11 ∷ pos 2 ∷ [])
    -- V and W, and the least β at which the set closes: the third condition fails one below
    ∷ case (noises (large 117)) (pos 43018256 ∷ pos 20480 ∷ [])
    ∷ case (paired_set (large 117)) []
    ∷ case (paired_set (large 116)) (pos 5 ∷ pos 2 ∷ [])
    ∷ case (noises (toy 4)) (pos 327168 ∷ pos 4096 ∷ [])
    ∷ case (paired_set (toy 4)) []
    ∷ case (paired_set (toy 3)) (pos 5 ∷ pos 2 ∷ [])
    ∷ []

abbrev pub Satisfied : Type 0
Satisfied = map (λ c. c.gives) worked ≡ map (λ c. c.wanted) worked
