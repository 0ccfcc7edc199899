-- Digits written one by one, and the law of the split under cover.
use Rattle.std.proofs.Common.{◌≡◌, ℕ, zero, suc, ◌+◌, ◌-◌, ◌<◌, List, [], ◌∷◌, ◌++◌, length, get_or, take, set, ℤ, pos, refl, append_assoc, arith, length-set}
use Rattle.std.proofs.lemmas.List.{take_more_set, take_all}
use Rattle.algebra.specs.Digits.{digit_of, rest_of, digit}
use Rattle.words.specs.Digits.{digits_of}

one_more : (B k : ℕ) (u : ℤ) → digits_of B (suc (suc k)) u ≡ digit_of B u ∷ digits_of B (suc k) (rest_of B u)
unfolding digits_of
one_more B k u = refl

last_one : (B : ℕ) (u : ℤ) → digits_of B (suc 0) u ≡ u ∷ []
unfolding digits_of
last_one B u = refl

-- a turn of the loop
pub digits_more : (out : List ℤ) (B i last : ℕ) (u : ℤ) → i < last → i < length out
    → take (i + 1) (set out i (digit_of B u)) ++ digits_of B (suc (last - (i + 1))) (rest_of B u) ≡ take i out ++ digits_of B (suc (last - i)) u
digits_more out B i last u a b =
    let t = take_more_set out i (digit_of B u) b in
    let e : last - i ≡ suc (last - (i + 1)) = omega arith in
    let m = one_more B (last - (i + 1)) u in
    let s = append_assoc (take i out) (digit_of B u ∷ []) (digits_of B (suc (last - (i + 1))) (rest_of B u)) in
    cc

-- the last digit
pub digits_end : (out : List ℤ) (B last : ℕ) (u : ℤ) → last + 1 ≡ length out
    → set out last u ≡ take last out ++ digits_of B (suc (last - last)) u
digits_end out B last u e =
    let a : last < length out = omega arith in
    let t = take_more_set out last u a in
    let n = length-set out last u in
    let w = take_all (last + 1) (set out last u) (omega arith) in
    let z : last - last ≡ 0 = omega arith in
    let y = last_one B u in
    cc

-- the last digit is the rest that remains
pub digits_last : (out : List ℤ) (B i n : ℕ) (u v : ℤ) → length out ≡ i → n ≡ suc i
    → take i out ++ digits_of B (suc (i - i)) u ≡ digits_of B (suc i) v → out ++ u ∷ [] ≡ digits_of B n v
digits_last out B i n u v l e h =
    let w = take_all i out (omega arith) in
    let z : i - i ≡ 0 = omega arith in
    let y = last_one B u in
    cc

-- the list of digits, place by place
pub digits_at : (B d : ℕ) (u : ℤ) (i : ℕ) → i < d → get_or (digits_of B d u) i (pos 0) ≡ digit B d u i
unfolding digits_of digit
digits_at B zero u i h = absurd (omega arith)
digits_at B (suc zero) u zero h = refl
digits_at B (suc zero) u (suc i) h = absurd (omega arith)
digits_at B (suc (suc d)) u zero h = refl
digits_at B (suc (suc d)) u (suc i) h = digits_at B (suc d) (rest_of B u) i (omega arith)
