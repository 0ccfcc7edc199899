-- The rules beyond the limits: what is refused first is the least fault, and a set that nothing refuses keeps them all.
use Rattle.std.proofs.Common.{◌≡◌, ℕ, ◌+◌, ◌-◌, ◌*◌, ◌%◌, ◌^◌, ◌<◌, ◌≤◌, Bool, true, false, eqb, ltb, leb, is_some, Some, None, Option, sym, refl, ap, ◌∙◌, inl, inr, arith}
use Rattle.std.proofs.lemmas.Nat.{pow_below}
use Rattle.std.proofs.lemmas.Bool.{eqb-true, eqb-false, leb-true, leb-false, and_parts, and_from, cases_order}
use Rattle.faults.specs.declared.fault.Fault.{Fault}
use Rattle.faults.specs.declared.fault.Fault.TheVariants.{Field, Cover, Root, Closing}
use Rattle.faults.specs.Least.{Least, or_else, unless}
use Rattle.faults.specs.Causes.{row_of}
use Rattle.faults.proofs.Least.{row_first, row_last, least_or}
use Rattle.words.specs.Powers.{is_power, power_within, within}
use Rattle.words.specs.Moduli.{ring_modulus, switch_modulus}
use Rattle.words.specs.Gadgets.{covers, ring_gadget_broken, switch_gadget_broken}
use Rattle.words.proofs.Moduli.{within_holds, within_low, within_high}
use Rattle.words.proofs.Gadgets.{covers_told, covers_parts}
use Rattle.rings.specs.Rules.{ring_broken, log_of, fits_modulus, fits_root}
use Rattle.rings.proofs.Refusals.{degree_of, modulus_of, root_of}
use Rattle.set.specs.declared.numbers.Numbers.{Numbers}
use Rattle.set.specs.Limits.{Limits, WrongLimits, limits_broken}
use Rattle.set.specs.Noise.{swept_noise, switch_noise}
use Rattle.set.specs.Rules.{gate_noise, Rules, WrongRules, WrongSet, closing_broken, rules_broken, set_broken, LimitsTold, RulesTold}
use Rattle.set.proofs.Limits.{Tests, Short, tests_of, limits_of, limits_least, passes, peel, or_first, or_next}

-- a row that passes is passed over
skip : (b : Bool) (f : Fault) (r : Option Fault) → b ≡ true → or_else (unless b f) r ≡ r
skip b f r e = ap (λ (x : Bool). or_else (unless x f) r) e

-- of numbers within their limits the gadgets and the ring refuse by cover and root alone
module _ (n : Numbers) (t : Tests n) where
  pub cover_only : ring_gadget_broken n.modulus n.dropped n.base n.digits ≡ unless (covers n.modulus n.dropped n.base n.digits) (Cover 7)
  cover_only =
      skip (ring_modulus n.modulus) (Field 3) (or_else (unless (power_within 1 65536 n.dropped) (Field 5)) (or_else (unless (power_within 2 65536 n.base) (Field 6)) (or_else (unless (within 1 31 n.digits) (Field 7)) (unless (covers n.modulus n.dropped n.base n.digits) (Cover 7))))) t.modulus_passes
      ∙ skip (power_within 1 65536 n.dropped) (Field 5) (or_else (unless (power_within 2 65536 n.base) (Field 6)) (or_else (unless (within 1 31 n.digits) (Field 7)) (unless (covers n.modulus n.dropped n.base n.digits) (Cover 7)))) t.dropped_passes
      ∙ skip (power_within 2 65536 n.base) (Field 6) (or_else (unless (within 1 31 n.digits) (Field 7)) (unless (covers n.modulus n.dropped n.base n.digits) (Cover 7))) t.base_passes
      ∙ skip (within 1 31 n.digits) (Field 7) (unless (covers n.modulus n.dropped n.base n.digits) (Cover 7)) t.digits_passes

  switch_passes_lem : switch_modulus n.switch ≡ true
  switch_passes_lem =
      let q = and_parts (is_power n.small) (within 32 (2 * n.degree) n.small) t.small_passes in
      let p = and_parts (is_power n.switch) (within n.small (2 ^ 20) n.switch) t.switch_passes in
      let a = within_low 32 (2 * n.degree) n.small q.1 in
      let b = within_low n.small (2 ^ 20) n.switch p.1 in
      let h = within_high n.small (2 ^ 20) n.switch p.1 in
      and_from (is_power n.switch) (within 32 (2 ^ 20) n.switch) p.0 (within_holds 32 (2 ^ 20) n.switch (omega arith) h)

  pub switch_only : switch_gadget_broken n.switch n.radix n.places ≡ unless (covers n.switch 1 n.radix n.places) (Cover 13)
  switch_only =
      skip (switch_modulus n.switch) (Field 11) (or_else (unless (power_within 2 1024 n.radix) (Field 12)) (or_else (unless (within 1 20 n.places) (Field 13)) (unless (covers n.switch 1 n.radix n.places) (Cover 13)))) switch_passes_lem
      ∙ skip (power_within 2 1024 n.radix) (Field 12) (or_else (unless (within 1 20 n.places) (Field 13)) (unless (covers n.switch 1 n.radix n.places) (Cover 13))) t.radix_passes
      ∙ skip (within 1 20 n.places) (Field 13) (unless (covers n.switch 1 n.radix n.places) (Cover 13)) t.places_passes

-- an exponent from its power
exponent_most : (k m : ℕ) → 2 ^ k ≤ 2 ^ m → k ≤ m
exponent_most k m h = elim (cases_order k m)
    [ inl e ↦ omega arith | inr o ↦ elim o [ inl l ↦ omega arith | inr g ↦ absurd (let p = pow_below m k g in omega arith) ] ]

pub root_only : (n : Numbers) → Limits n
    → ring_broken n.degree n.modulus n.root ≡ unless (eqb (n.root ^ n.degree % n.modulus) (n.modulus - 1)) Root
root_only n l =
    let N = n.degree in
    let Q = n.modulus in
    let ψ = n.root in
    let k = l.degree_ok.0.0 in
    let e = l.degree_ok.0.1 in
    let low : 4 ≤ k = (let h = l.degree_ok.1.0 in exponent_most 4 k (omega (arith, e, h))) in
    let high : k ≤ 10 = (let h = l.degree_ok.1.1 in exponent_most k 10 (omega (arith, e, h))) in
    let m = l.modulus_ok in
    let r = l.root_ok in
    let dp : ltb 0 (log_of N) ≡ true = degree_of N k e (omega arith) high in
    let mp : fits_modulus Q ≡ true = modulus_of Q (m.0, m.1.0, m.1.1) in
    let rp : fits_root Q ψ ≡ true = root_of Q ψ (r.0, (let a = m.1.0 in let b = r.1 in omega arith)) in
    skip (ltb 0 (log_of N)) (Field 0) (or_else (unless (fits_modulus Q) (Field 3)) (or_else (unless (fits_root Q ψ) (Field 4)) (unless (eqb (ψ ^ N % Q) (Q - 1)) Root))) dp
    ∙ skip (fits_modulus Q) (Field 3) (or_else (unless (fits_root Q ψ) (Field 4)) (unless (eqb (ψ ^ N % Q) (Q - 1)) Root)) mp
    ∙ skip (fits_root Q ψ) (Field 4) (unless (eqb (ψ ^ N % Q) (Q - 1)) Root) rp

-- the rows
most_told : (a b : ℕ) → leb a b ≡ false → a ≤ b → ⊥
most_told a b e h = let l = leb-false a b e in omega arith

pub rules_least : (n : Numbers) (stated : ℕ) → Least (WrongRules n stated) (rules_broken n stated)
unfolding rules_broken
rules_least n stated =
    (row_first (Cover 7) (Cover 13) _ _ (covers n.modulus n.dropped n.base n.digits) _ (inr (refl, inl (omega arith))) (covers_told n.modulus n.dropped n.base n.digits) (λ p e. p (covers_parts n.modulus n.dropped n.base n.digits e))
    (row_first (Cover 13) Root _ _ (covers n.switch 1 n.radix n.places) _ (inl (omega arith)) (covers_told n.switch 1 n.radix n.places) (λ p e. p (covers_parts n.switch 1 n.radix n.places e))
    (row_first Root (Closing 0) _ _ (eqb (n.root ^ n.degree % n.modulus) (n.modulus - 1)) _ (inl (omega arith)) (eqb-false (n.root ^ n.degree % n.modulus) (n.modulus - 1)) (λ p e. p (eqb-true (n.root ^ n.degree % n.modulus) (n.modulus - 1) e))
    (row_first (Closing 0) (Closing 1) _ _ (leb (8 * (swept_noise n stated + 2)) n.modulus) _ (inr (refl, inl (omega arith))) (most_told (8 * (swept_noise n stated + 2)) n.modulus) (λ p e. p (leb-true (8 * (swept_noise n stated + 2)) n.modulus e))
    (row_first (Closing 1) (Closing 2) _ _ (leb (1 + n.weight + 2 * switch_noise n) n.switch) _ (inr (refl, inl (omega arith))) (most_told (1 + n.weight + 2 * switch_noise n) n.switch) (λ p e. p (leb-true (1 + n.weight + 2 * switch_noise n) n.switch e))
    (row_last (Closing 2) (leb (gate_noise n stated) (2 * n.modulus * n.switch * n.bound)) _ (most_told (gate_noise n stated) (2 * n.modulus * n.switch * n.bound)) (λ p e. p (leb-true (gate_noise n stated) (2 * n.modulus * n.switch * n.bound) e)))))))).least

-- a set that nothing refuses keeps every rule
pub rules_of : (n : Numbers) (stated : ℕ) → is_some (limits_broken n) ≡ false → rules_broken n stated ≡ None → Rules n stated
unfolding rules_broken
rules_of n stated fit all =
    let t5 : Option Fault = unless (leb (gate_noise n stated) (2 * n.modulus * n.switch * n.bound)) (Closing 2) in
    let t4 : Option Fault = or_else (unless (leb (1 + n.weight + 2 * switch_noise n) n.switch) (Closing 1)) t5 in
    let t3 : Option Fault = or_else (unless (leb (8 * (swept_noise n stated + 2)) n.modulus) (Closing 0)) t4 in
    let t2 : Option Fault = or_else (unless (eqb (n.root ^ n.degree % n.modulus) (n.modulus - 1)) Root) t3 in
    let t1 : Option Fault = or_else (unless (covers n.switch 1 n.radix n.places) (Cover 13)) t2 in
    let p0 = peel (covers n.modulus n.dropped n.base n.digits) (Cover 7) t1 all in
    let p1 = peel (covers n.switch 1 n.radix n.places) (Cover 13) t2 p0.1 in
    let p2 = peel (eqb (n.root ^ n.degree % n.modulus) (n.modulus - 1)) Root t3 p1.1 in
    let p3 = peel (leb (8 * (swept_noise n stated + 2)) n.modulus) (Closing 0) t4 p2.1 in
    let p4 = peel (leb (1 + n.weight + 2 * switch_noise n) n.switch) (Closing 1) t5 p3.1 in
    let p5 = passes (leb (gate_noise n stated) (2 * n.modulus * n.switch * n.bound)) (Closing 2) p4.1 in
    record {
      limits = limits_of n fit;
      cover = covers_parts n.modulus n.dropped n.base n.digits p0.0;
      switch_cover = covers_parts n.switch 1 n.radix n.places p1.0;
      wraps = eqb-true (n.root ^ n.degree % n.modulus) (n.modulus - 1) p2.0;
      swept = leb-true (8 * (swept_noise n stated + 2)) n.modulus p3.0;
      switched = leb-true (1 + n.weight + 2 * switch_noise n) n.switch p4.0;
      closes = leb-true (gate_noise n stated) (2 * n.modulus * n.switch * n.bound) p5;
    }

-- nothing is refused where nothing is wrong
nothing : (W : Fault → Type 0) (o : Option Fault) → Least W o → ((g : Fault) → W g → ⊥) → o ≡ None
nothing W None l clean = refl
nothing W (Some f) l clean = absurd (clean f l.0)

pub keeps_rules : (n : Numbers) (stated : ℕ) → Rules n stated → rules_broken n stated ≡ None
keeps_rules n stated r =
    nothing (WrongRules n stated) (rules_broken n stated) (rules_least n stated)
    (λ g w. elim w [
      | inl a ↦ a.1 r.cover
      | inr b ↦ elim b [
        | inl a ↦ a.1 r.switch_cover
        | inr b ↦ elim b [
          | inl a ↦ a.1 r.wraps
          | inr b ↦ elim b [
            | inl a ↦ a.1 r.swept
            | inr b ↦ elim b
                [ inl a ↦ a.1 r.switched | inr b ↦ b.1 r.closes ]
          ]
        ]
      ]
    ])

pub keeps_limits : (n : Numbers) → Short n → Limits n → limits_broken n ≡ None
keeps_limits n s l =
    nothing (WrongLimits n) (limits_broken n) (limits_least n s)
    (λ g w. elim w [
      | inl a ↦ a.1 l.degree_ok
      | inr b ↦ elim b [
        | inl a ↦ a.1 l.dimension_ok
        | inr b ↦ elim b [
          | inl a ↦ a.1 l.small_ok
          | inr b ↦ elim b [
            | inl a ↦ a.1 l.modulus_ok
            | inr b ↦ elim b [
              | inl a ↦ a.1 l.root_ok
              | inr b ↦ elim b [
                | inl a ↦ a.1 l.dropped_ok
                | inr b ↦ elim b [
                  | inl a ↦ a.1 l.base_ok
                  | inr b ↦ elim b [
                    | inl a ↦ a.1 l.digits_ok
                    | inr b ↦ elim b [
                      | inl a ↦ a.1 l.noise_ok
                      | inr b ↦ elim b [
                        | inl a ↦ a.1 l.weight_ok
                        | inr b ↦ elim b [
                          | inl a ↦ a.1 l.ones_ok
                          | inr b ↦ elim b [
                            | inl a ↦ a.1 l.switch_ok
                            | inr b ↦ elim b [
                              | inl a ↦ a.1 l.radix_ok
                              | inr b ↦ elim b [
                                | inl a ↦ a.1 l.places_ok
                                | inr b ↦ elim b
                                    [ inl a ↦ a.1 l.jitter_ok | inr b ↦ b.1 l.bound_ok ]
                              ]
                            ]
                          ]
                        ]
                      ]
                    ]
                  ]
                ]
              ]
            ]
          ]
        ]
      ]
    ])

-- the same, of numbers of 32 bits and of numbers within their limits
pub limits_told : (n : Numbers) → Short n → LimitsTold n
limits_told n short = ((λ e. limits_of n (ap (λ (o : Option Fault). is_some o) e)), keeps_limits n short)

pub rules_told : (n : Numbers) (stated : ℕ) → is_some (limits_broken n) ≡ false → RulesTold n stated
rules_told n stated fit = (rules_of n stated fit, keeps_rules n stated)

-- the rules in turn, as the gadgets, the ring and the closing tell them
module _ (n : Numbers) (stated : ℕ) (fit : is_some (limits_broken n) ≡ false) where
  pub cover_first : (f : Fault) → ring_gadget_broken n.modulus n.dropped n.base n.digits ≡ Some f → rules_broken n stated ≡ Some f
  unfolding rules_broken
  cover_first f e = or_first (unless (covers n.modulus n.dropped n.base n.digits) (Cover 7)) _ f (sym (cover_only n (tests_of n fit)) ∙ e)

  past_cover : ring_gadget_broken n.modulus n.dropped n.base n.digits ≡ None
      → rules_broken n stated ≡ or_else (unless (covers n.switch 1 n.radix n.places) (Cover 13)) (or_else (unless (eqb (n.root ^ n.degree % n.modulus) (n.modulus - 1)) Root) (closing_broken n stated))
  unfolding rules_broken
  past_cover e = or_next (unless (covers n.modulus n.dropped n.base n.digits) (Cover 7)) _ (sym (cover_only n (tests_of n fit)) ∙ e)

  pub switch_first : (f : Fault) → ring_gadget_broken n.modulus n.dropped n.base n.digits ≡ None
      → switch_gadget_broken n.switch n.radix n.places ≡ Some f → rules_broken n stated ≡ Some f
  switch_first f a e =
      past_cover a ∙ or_first (unless (covers n.switch 1 n.radix n.places) (Cover 13)) (or_else (unless (eqb (n.root ^ n.degree % n.modulus) (n.modulus - 1)) Root) (closing_broken n stated)) f (sym (switch_only n (tests_of n fit)) ∙ e)

  past_switch : ring_gadget_broken n.modulus n.dropped n.base n.digits ≡ None
      → switch_gadget_broken n.switch n.radix n.places ≡ None
      → rules_broken n stated ≡ or_else (unless (eqb (n.root ^ n.degree % n.modulus) (n.modulus - 1)) Root) (closing_broken n stated)
  past_switch a e =
      past_cover a ∙ or_next (unless (covers n.switch 1 n.radix n.places) (Cover 13)) (or_else (unless (eqb (n.root ^ n.degree % n.modulus) (n.modulus - 1)) Root) (closing_broken n stated)) (sym (switch_only n (tests_of n fit)) ∙ e)

  pub root_first : (f : Fault) → ring_gadget_broken n.modulus n.dropped n.base n.digits ≡ None
      → switch_gadget_broken n.switch n.radix n.places ≡ None → ring_broken n.degree n.modulus n.root ≡ Some f → rules_broken n stated ≡ Some f
  root_first f a b e =
      past_switch a b ∙ or_first (unless (eqb (n.root ^ n.degree % n.modulus) (n.modulus - 1)) Root) (closing_broken n stated) f (sym (root_only n (limits_of n fit)) ∙ e)

  pub closing_last : ring_gadget_broken n.modulus n.dropped n.base n.digits ≡ None
      → switch_gadget_broken n.switch n.radix n.places ≡ None → ring_broken n.degree n.modulus n.root ≡ None → rules_broken n stated ≡ closing_broken n stated
  closing_last a b e =
      past_switch a b ∙ or_next (unless (eqb (n.root ^ n.degree % n.modulus) (n.modulus - 1)) Root) (closing_broken n stated) (sym (root_only n (limits_of n fit)) ∙ e)

-- limits come before the other rules
limits_row : (n : Numbers) (g : Fault) → WrongLimits n g → row_of g ≡ 2
limits_row n g w =
    elim w [
      | inl a ↦ ap row_of a.0
      | inr b ↦ elim b [
        | inl a ↦ ap row_of a.0
        | inr b ↦ elim b [
          | inl a ↦ ap row_of a.0
          | inr b ↦ elim b [
            | inl a ↦ ap row_of a.0
            | inr b ↦ elim b [
              | inl a ↦ ap row_of a.0
              | inr b ↦ elim b [
                | inl a ↦ ap row_of a.0
                | inr b ↦ elim b [
                  | inl a ↦ ap row_of a.0
                  | inr b ↦ elim b [
                    | inl a ↦ ap row_of a.0
                    | inr b ↦ elim b [
                      | inl a ↦ ap row_of a.0
                      | inr b ↦ elim b [
                        | inl a ↦ ap row_of a.0
                        | inr b ↦ elim b [
                          | inl a ↦ ap row_of a.0
                          | inr b ↦ elim b [
                            | inl a ↦ ap row_of a.0
                            | inr b ↦ elim b [
                              | inl a ↦ ap row_of a.0
                              | inr b ↦ elim b [
                                | inl a ↦ ap row_of a.0
                                | inr b ↦ elim b
                                    [ inl a ↦ ap row_of a.0 | inr b ↦ ap row_of b.0 ]
                              ]
                            ]
                          ]
                        ]
                      ]
                    ]
                  ]
                ]
              ]
            ]
          ]
        ]
      ]
    ]

row_between : (g f : Fault) → g ≡ f → 2 < row_of f → row_of f < 6 → (2 < row_of g) × (row_of g < 6)
row_between g f e a b = let h = ap row_of e in (omega arith, omega arith)

rules_row : (n : Numbers) (stated : ℕ) (g : Fault) → WrongRules n stated g → (2 < row_of g) × (row_of g < 6)
rules_row n stated g w =
    elim w [
      | inl a ↦ row_between g _ a.0 (omega arith) (omega arith)
      | inr b ↦ elim b [
        | inl a ↦ row_between g _ a.0 (omega arith) (omega arith)
        | inr b ↦ elim b [
          | inl a ↦ row_between g _ a.0 (omega arith) (omega arith)
          | inr b ↦ elim b [
            | inl a ↦ row_between g _ a.0 (omega arith) (omega arith)
            | inr b ↦ elim b
                [ inl a ↦ row_between g _ a.0 (omega arith) (omega arith) | inr b ↦ row_between g _ b.0 (omega arith) (omega arith) ]
          ]
        ]
      ]
    ]

pub set_row : (n : Numbers) (stated : ℕ) (g : Fault) → WrongSet n stated g → (1 < row_of g) × (row_of g < 6)
set_row n stated g w =
    elim w [
      | inl a ↦ (let e = limits_row n g a in (omega arith, omega arith))
      | inr b ↦ (let r = rules_row n stated g b in (omega arith, omega arith))
    ]

pub set_least : (n : Numbers) (stated : ℕ) → Short n → Least (WrongSet n stated) (set_broken n stated)
set_least n stated s =
    least_or (WrongLimits n) (WrongRules n stated) (limits_broken n) (rules_broken n stated) (limits_least n s) (rules_least n stated)
    (λ f g w v. inl (let a = limits_row n f w in let b = rules_row n stated g v in omega arith))
