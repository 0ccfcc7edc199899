-- Each refusal is the least of the faults that are true of the call.
use Rattle.std.proofs.Common.{◌≡◌, ℕ, ◌+◌, ◌*◌, ◌<◌, ◌≤◌, true, false, ◌&&◌, leb, ◌⊎◌, List, [], ◌∷◌, length, Some, None, Option, sym, refl, ap, ◌∙◌, subst, inl, inr, add-zero, arith}
use Rattle.std.proofs.lemmas.Bool.{leb-true, leb-false, and_parts, and_cases}
use Rattle.faults.specs.declared.fault.Fault.{Fault}
use Rattle.faults.specs.declared.fault.Fault.TheVariants.{Length, Register, Empty, CipherWord}
use Rattle.faults.specs.declared.fault.Layer.{Layer}
use Rattle.faults.specs.declared.fault.Layer.TheVariants.{File}
use Rattle.faults.specs.Least.{Least, NoLater, or_else}
use Rattle.faults.proofs.Least.{least_or, least_unless, least_length, no_later_by}
use Rattle.set.specs.declared.numbers.Numbers.{Numbers}
use Rattle.registers.specs.declared.op.Op.{Op}
use Rattle.registers.specs.Registers.{wide, first_high}
use Rattle.registers.specs.Marks.{State}
use Rattle.gate.specs.Lengths.{start_length, selectors_length, rows_length, gate_work}
use Rattle.registers.specs.declared.lists.Lists.{Lists}
use Rattle.registers.specs.Steps.{outsides, fault_at, bad_list, bad_keys, bad_work, bad_length, bad_memory, bad_registers, gate_lists, named, used, refuse_new, refuse_place, refuse_read, refuse_op, refuse_gate}
use Rattle.registers.specs.Wrong.{WrongLength, WrongRegister, WrongEmpty, WrongWord, WrongNew, WrongPlace, WrongRead, WrongOp, WrongGate}
use Rattle.registers.proofs.Smallest.{register_least, empty_least, word_least}

-- faults of lists come before those of registers and words, and these in their order
length_register : (i have want : ℕ) (s : State) (xs : List ℕ) (f g : Fault) → WrongLength i have want f → WrongRegister s xs g → NoLater f g
length_register i have want s xs f g w v = no_later_by f g (Length i File) (Register v.0) w.0 v.1.0 (inl (omega arith))

length_empty : (i have want : ℕ) (s : State) (xs : List ℕ) (f g : Fault) → WrongLength i have want f → WrongEmpty s xs g → NoLater f g
length_empty i have want s xs f g w v = no_later_by f g (Length i File) (Empty v.0) w.0 v.1.0 (inl (omega arith))

length_word : (i have want q : ℕ) (xs : List ℕ) (f g : Fault) → WrongLength i have want f → WrongWord q xs g → NoLater f g
length_word i have want q xs f g w v = no_later_by f g (Length i File) (CipherWord v.0 File) w.0 v.1.0 (inl (omega arith))

length_length : (have want more most : ℕ) (f g : Fault) → WrongLength 0 have want f → WrongLength 1 more most g → NoLater f g
length_length have want more most f g w v = no_later_by f g (Length 0 File) (Length 1 File) w.0 v.0 (inr (refl, inl (omega arith)))

register_empty : (s : State) (xs ys : List ℕ) (f g : Fault) → WrongRegister s xs f → WrongEmpty s ys g → NoLater f g
register_empty s xs ys f g w v = no_later_by f g (Register w.0) (Empty v.0) w.1.0 v.1.0 (inl (omega arith))

register_word : (s : State) (q : ℕ) (xs ys : List ℕ) (f g : Fault) → WrongRegister s xs f → WrongWord q ys g → NoLater f g
register_word s q xs ys f g w v = no_later_by f g (Register w.0) (CipherWord v.0 File) w.1.0 v.1.0 (inl (omega arith))

-- the registers that are named, and then those that must be filled
pub registers_least : (s : State) (names uses : List ℕ) → Least (λ g. WrongRegister s names g ⊎ WrongEmpty s uses g) (bad_registers s names uses)
registers_least s names uses =
    least_or (WrongRegister s names) (WrongEmpty s uses) _ _ (register_least s names) (empty_least s uses) (register_empty s names uses)

-- a list before the registers
after_length : (i have want : ℕ) (s : State) (names uses : List ℕ)
    → Least (λ g. WrongLength i have want g ⊎ (WrongRegister s names g ⊎ WrongEmpty s uses g)) (or_else (bad_length i have want) (bad_registers s names uses))
after_length i have want s names uses =
    least_or (WrongLength i have want) (λ g. WrongRegister s names g ⊎ WrongEmpty s uses g) _ _
    (least_length (Length i File) have want) (registers_least s names uses)
    (λ f g w v. elim v [ inl a ↦ length_register i have want s names f g w a | inr b ↦ length_empty i have want s uses f g w b ])

-- lists in their order, before the registers
pub record After (i : ℕ) (W : Fault → Type 0) (a : Option Fault) : Type 0 where
  pub least : Least W a
  pub later : (j have want : ℕ) (f g : Fault) → j < i → WrongLength j have want f → W g → NoLater f g

after_registers : (i have want : ℕ) (s : State) (names uses : List ℕ)
    → After i (λ g. WrongLength i have want g ⊎ (WrongRegister s names g ⊎ WrongEmpty s uses g)) (or_else (bad_length i have want) (bad_registers s names uses))
after_registers i have want s names uses =
    record {
      least = after_length i have want s names uses;
      later = λ j h w f g l a v. elim v [
        | inl b ↦ no_later_by f g (Length j File) (Length i File) a.0 b.0 (inr (refl, inl l))
        | inr b ↦ elim b [ inl r ↦ length_register j h w s names f g a r | inr e ↦ length_empty j h w s uses f g a e ]
      ];
    }

one_list : (i have want : ℕ) (W : Fault → Type 0) (a : Option Fault) → After (i + 1) W a
    → After i (λ g. WrongLength i have want g ⊎ W g) (or_else (bad_length i have want) a)
one_list i have want W a h =
    record {
      least = least_or (WrongLength i have want) W _ _ (least_length (Length i File) have want) h.least (λ f g w v. h.later i have want f g (omega arith) w v);
      later = λ j k n f g l b v. elim v [
        | inl c ↦ no_later_by f g (Length j File) (Length i File) b.0 c.0 (inr (refl, inl l))
        | inr c ↦ h.later j k n f g (omega arith) b c
      ];
    }

or_assoc : (a b c : Option Fault) → or_else (or_else a b) c ≡ or_else a (or_else b c)
or_assoc None b c = refl
or_assoc (Some f) b c = refl

-- no word more is no more
pub no_more : (m : Numbers) (part : Layer) (i : ℕ) (l : Lists)
    → bad_work part i 0 m l
    ≡ or_else (bad_list part i l.small (wide m)) (or_else (bad_list part (i + 1) l.work (gate_work m)) (bad_list part (i + 2) l.scratch m.degree))
no_more m part i l =
    let a : wide m + 0 ≡ wide m = add-zero (wide m) in
    let b : gate_work m + 0 ≡ gate_work m = add-zero (gate_work m) in
    let c : m.degree + 0 ≡ m.degree = add-zero m.degree in
    cc

-- the lists of a gate, as those of key memory, of registers and of work
pub lists_joined : (m : Numbers) (count : ℕ) (l : Lists) (s : State)
    → or_else (bad_keys File 0 m count l) (or_else (bad_memory 3 m s) (bad_work File 4 0 m l)) ≡ gate_lists m count l s
lists_joined m count l s =
    let r = or_else (bad_memory 3 m s) (bad_work File 4 0 m l) in
    let a0 = bad_length 0 l.start (start_length m) in
    let a1 = bad_length 1 l.selectors (selectors_length m count) in
    let a2 = bad_length 2 l.rows (rows_length m) in
    or_assoc a0 (or_else a1 a2) r
    ∙ ap (or_else a0) (or_assoc a1 a2 r)
    ∙ ap (λ (v : Option Fault). or_else a0 (or_else a1 (or_else a2 (or_else (bad_memory 3 m s) v)))) (no_more m File 4 l)

pub gate_least : (m : Numbers) (count : ℕ) (l : Lists) (s : State) (x y z : ℕ) → Least (WrongGate m count l s x y z) (refuse_gate m count l s x y z)
gate_least m count l s x y z =
    let names : List ℕ = x ∷ y ∷ z ∷ [] in
    let uses : List ℕ = x ∷ y ∷ [] in
    let a0 = bad_length 0 l.start (start_length m) in
    let a1 = bad_length 1 l.selectors (selectors_length m count) in
    let a2 = bad_length 2 l.rows (rows_length m) in
    let a3 = bad_memory 3 m s in
    let a4 = bad_length 4 l.small (wide m) in
    let a5 = bad_length 5 l.work (gate_work m) in
    let a6 = bad_length 6 l.scratch m.degree in
    let r = bad_registers s names uses in
    let turned : or_else a0 (or_else a1 (or_else a2 (or_else a3 (or_else a4 (or_else a5 (or_else a6 r)))))) ≡ refuse_gate m count l s x y z =
    sym (or_assoc a0 _ r ∙ ap (or_else a0) (or_assoc a1 _ r ∙ ap (or_else a1) (or_assoc a2 _ r ∙ ap (or_else a2) (or_assoc a3 _ r ∙ ap (or_else a3) (or_assoc a4 _ r ∙ ap (or_else a4) (or_assoc a5 a6 r)))))) in
    subst (Least (WrongGate m count l s x y z)) turned
    (one_list 0 l.start (start_length m) _ _
    (one_list 1 l.selectors (selectors_length m count) _ _
    (one_list 2 l.rows (rows_length m) _ _
    (one_list 3 (length s.words) (s.count * wide m) _ _
    (one_list 4 l.small (wide m) _ _
    (one_list 5 l.work (gate_work m) _ _
    (after_registers 6 l.scratch m.degree s names uses))))))).least

pub op_least : (m : Numbers) (s : State) (op : Op) → Least (WrongOp m s op) (refuse_op m s op)
op_least m s op = after_length 0 (length s.words) (s.count * wide m) s (named op) (used op)

pub read_least : (m : Numbers) (s : State) (x have : ℕ) → Least (WrongRead m s x have) (refuse_read m s x have)
read_least m s x have =
    let whole : ℕ = s.count * wide m in
    least_or (WrongLength 0 have (wide m)) (λ g. WrongLength 1 (length s.words) whole g ⊎ (WrongRegister s (x ∷ []) g ⊎ WrongEmpty s (x ∷ []) g)) _ _
    (least_length (Length 0 File) have (wide m)) (after_length 1 (length s.words) whole s (x ∷ []) (x ∷ []))
    (λ f g w v. elim v [
      | inl a ↦ length_length have (wide m) (length s.words) whole f g w a
      | inr b ↦ elim b [
        | inl a ↦ length_register 0 have (wide m) s (x ∷ []) f g w a
        | inr e ↦ length_empty 0 have (wide m) s (x ∷ []) f g w e
      ]
    ])

module _ (m : Numbers) (s : State) (z : ℕ) (new : List ℕ) where
  place_words : Least (λ g. WrongRegister s (z ∷ []) g ⊎ WrongWord m.small new g)
      (or_else (fault_at Register (outsides s.count (z ∷ []))) (fault_at (λ i. CipherWord i File) (first_high m.small 0 new)))
  place_words =
      least_or (WrongRegister s (z ∷ [])) (WrongWord m.small new) _ _ (register_least s (z ∷ [])) (word_least m.small new)
      (register_word s m.small (z ∷ []) new)

  place_memory : Least (λ g. WrongLength 1 (length s.words) (s.count * wide m) g ⊎ (WrongRegister s (z ∷ []) g ⊎ WrongWord m.small new g))
      (or_else (bad_memory 1 m s) (or_else (fault_at Register (outsides s.count (z ∷ []))) (fault_at (λ i. CipherWord i File) (first_high m.small 0 new))))
  place_memory =
      least_or (WrongLength 1 (length s.words) (s.count * wide m)) (λ g. WrongRegister s (z ∷ []) g ⊎ WrongWord m.small new g) _ _
      (least_length (Length 1 File) (length s.words) (s.count * wide m)) place_words
      (λ f g w v. elim v [
        | inl a ↦ length_register 1 (length s.words) (s.count * wide m) s (z ∷ []) f g w a
        | inr b ↦ length_word 1 (length s.words) (s.count * wide m) m.small new f g w b
      ])

  pub place_least : Least (WrongPlace m s z new) (refuse_place m s z new)
  place_least =
      least_or (WrongLength 0 (length new) (wide m)) (λ g. WrongLength 1 (length s.words) (s.count * wide m) g ⊎ (WrongRegister s (z ∷ []) g ⊎ WrongWord m.small new g)) _ _
      (least_length (Length 0 File) (length new) (wide m)) place_memory
      (λ f g w v. elim v [
        | inl a ↦ length_length (length new) (wide m) (length s.words) (s.count * wide m) f g w a
        | inr b ↦ elim b [
          | inl a ↦ length_register 0 (length new) (wide m) s (z ∷ []) f g w a
          | inr e ↦ length_word 0 (length new) (wide m) m.small new f g w e
        ]
      ])

-- R outside its limits
pub count_wrong : (count : ℕ) → (leb 1 count && leb count 64) ≡ false → ((1 ≤ count) × (count ≤ 64)) → ⊥
count_wrong count e h = elim (and_cases (leb 1 count) (leb count 64) e)
    [ inl a ↦ (let l = leb-false 1 count a in let k = h.0 in omega arith) | inr b ↦ (let l = leb-false count 64 b in let k = h.1 in omega arith) ]

pub count_right : (count : ℕ) → (((1 ≤ count) × (count ≤ 64)) → ⊥) → (leb 1 count && leb count 64) ≡ true → ⊥
count_right count n e = let p = and_parts (leb 1 count) (leb count 64) e in n (leb-true 1 count p.0, leb-true count 64 p.1)

pub new_least : (m : Numbers) (count have : ℕ) → Least (WrongNew m count have) (refuse_new m count have)
new_least m count have =
    least_or (WrongLength 0 have (count * wide m)) (λ g. (g ≡ Register count) × (((1 ≤ count) × (count ≤ 64)) → ⊥)) _ _
    (least_length (Length 0 File) have (count * wide m))
    (least_unless (leb 1 count && leb count 64) (Register count) (((1 ≤ count) × (count ≤ 64)) → ⊥) (count_wrong count) (count_right count))
    (λ f g w v. no_later_by f g (Length 0 File) (Register count) w.0 v.0 (inl (omega arith)))
