-- The words of the opposite bit, one by one.
use Rattle.std.proofs.Common.{◌≡◌, ℕ, suc, ◌+◌, ◌-◌, ◌*◌, ◌/◌, ◌%◌, ◌<◌, Bool, true, false, cond, eqb, List, length, get_or, pos, ◌-ℤ◌, ap, ◌∙◌, mod-lt, mul-one, mul-add, arith}
use native.Mathlib.Nat.{div-add-mod}
use borrow.Author.Differences.{ints}
use Rattle.std.proofs.lemmas.List.FromFn.{fill_by_all}
use Rattle.algebra.specs.Gates.{invert}
use Rattle.algebra.specs.Ints.{Cong}
use Rattle.algebra.specs.Words.{word_of, words}
use Rattle.algebra.proofs.Bridge.{mod_cong, word_is}
use Rattle.algebra.proofs.Cong.{cong_trans}
use Rattle.algebra.proofs.Words.{words_long}
use Rattle.set.specs.declared.numbers.Numbers.{Numbers}
use Rattle.registers.specs.Registers.{wide, remainders, opposite}

-- c less a, as a word
pub less : (q c a : ℕ) → 0 < q → (c + (q - a % q)) % q ≡ word_of q (pos c -ℤ pos a)
less q c a h =
    let d : q * (a / q) + a % q ≡ a = div-add-mod a q in
    let l : a % q < q = mod-lt a h in
    let p : q * (1 + a / q) ≡ q * 1 + q * (a / q) = mul-add q 1 (a / q) in
    let o : q * 1 ≡ q = mul-one q in
    let near : Cong q (pos (c + (q - a % q))) (pos c -ℤ pos a) = record { times = pos (1 + a / q); is = omega (arith, ints) } in
    word_is q ((c + (q - a % q)) % q) (pos c -ℤ pos a) (mod-lt (c + (q - a % q)) h) (cong_trans q (mod_cong q (c + (q - a % q))) near)

-- the same, where c is one of two numbers
pub less_by : (b : Bool) (q c e a : ℕ) → 0 < q → e ≡ cond b c 0 → (e + (q - a % q)) % q ≡ word_of q (cond b (pos c) (pos 0) -ℤ pos a)
less_by true q c e a h p = ap (λ (x : ℕ). (x + (q - a % q)) % q) p ∙ less q c a h
less_by false q c e a h p = ap (λ (x : ℕ). (x + (q - a % q)) % q) p ∙ less q 0 a h

pub inverted_from : (n q : ℕ) (row out : List ℕ) → length out ≡ n + 1
    → ((k : ℕ) → k < n + 1 → get_or out k 0 ≡ word_of q (cond (eqb k n) (pos (q / 4)) (pos 0) -ℤ pos (get_or row k 0)))
    → out ≡ invert n q row
unfolding invert words
inverted_from n q row out e f =
    fill_by_all (λ k. word_of q (cond (eqb k n) (pos (q / 4)) (pos 0) -ℤ pos (get_or row k 0))) out (suc n) 0 (omega arith) (λ k h. f k (omega arith))

-- n + 1 words
pub opposite_long : (m : Numbers) (row : List ℕ) → length (opposite m row) ≡ wide m
unfolding invert
opposite_long m row = words_long (suc m.dimension) m.small (λ j. cond (eqb j m.dimension) (pos (m.small / 4)) (pos 0) -ℤ pos (get_or row j 0)) ∙ omega arith

pub remainders_long : (m : Numbers) (row : List ℕ) → length (remainders m row) ≡ wide m
remainders_long m row = words_long (wide m) m.small (λ j. pos (get_or row j 0))
