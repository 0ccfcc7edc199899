-- Words made place by place.
use Rattle.std.proofs.Common.{◌≡◌, ℕ, suc, ◌+◌, ◌-◌, ◌*◌, ◌/◌, ◌%◌, ◌<◌, Bool, true, false, cond, eqb, ◌≢◌, List, length, get_or, set, ℤ, pos, ◌-ℤ◌, neg_ℤ, sym, refl, ap, ◌∙◌, subst, mod-lt, mod-eq_of_lt, mul-one, mul-add, arith, eq-eqb, ne_eqb}
use native.Mathlib.Nat.{div-add-mod, add-mul-mod_self_right, add-mul-div_left}
use borrow.Author.Differences.{ints}
use Rattle.std.proofs.lemmas.List.FromFn.{fill_by_all}
use Rattle.std.proofs.lemmas.List.Edits.{fill_by_more}
use Rattle.algebra.specs.Polys.{Poly}
use Rattle.algebra.specs.Words.{coeffs, word_of, words}
use Rattle.algebra.specs.Gates.{combine, invert, extract, extracted, narrow, rounded}
use Rattle.algebra.proofs.Bridge.{word_is, mod_cong}
use Rattle.algebra.proofs.Cong.{cong_trans}

-- a difference modulo Q
pub minus_word : (Q h s : ℕ) → 0 < Q → (h + Q - s % Q) % Q ≡ word_of Q (pos h -ℤ pos s)
minus_word Q h s some =
    word_is Q ((h + Q - s % Q) % Q) (pos h -ℤ pos s) (mod-lt (h + Q - s % Q) some)
    (cong_trans Q (mod_cong Q (h + Q - s % Q)) (
    let d : Q * (s / Q) + s % Q ≡ s = div-add-mod s Q in
    let m : s % Q < Q = mod-lt s some in
    let p : Q * (1 + s / Q) ≡ Q * 1 + Q * (s / Q) = mul-add Q 1 (s / Q) in
    let o : Q * 1 ≡ Q = mul-one Q in
    record { times = pos (1 + s / Q); is = omega (arith, ints) }))

-- a loop's turn: one more word is told
pub told_more : (f : ℕ → ℕ) (xs : List ℕ) (i v : ℕ) → i < length xs → v ≡ f i → ((k : ℕ) → k < i → get_or xs k 0 ≡ f k)
    → (k : ℕ) → k < i + 1 → get_or (set xs i v) k 0 ≡ f k
told_more f xs i v l e h k b =
    subst (λ (x : ℕ). get_or (set xs i x) k 0 ≡ f k) (sym e) (fill_by_more f xs i 0 l h k b)

-- N words, each told
pub words_told : (N Q : ℕ) (p : Poly) (xs : List ℕ) → length xs ≡ N → ((k : ℕ) → k < N → get_or xs k 0 ≡ word_of Q (p k)) → xs ≡ words N Q p
unfolding words
words_told N Q p xs e h = fill_by_all (λ k. word_of Q (p k)) xs N 0 e h

-- the head at the last place
pub head_at : (i n h : ℕ) → pos (cond (eqb i n) h 0) ≡ cond (eqb i n) (pos h) (pos 0)
head_at i n h = elim (eqb i n) as (λ b. pos (cond b h 0) ≡ cond b (pos h) (pos 0)) [ true ↦ refl | false ↦ refl ]

pub combined_from : (n q o t : ℕ) (xs ys out : List ℕ) → length out ≡ n + 1
    → ((k : ℕ) → k < n + 1 → get_or out k 0 ≡ word_of q (pos (cond (eqb k n) (o * (q / 8)) 0) -ℤ pos (t * (get_or xs k 0 + get_or ys k 0))))
    → out ≡ combine n q o t xs ys
unfolding combine
combined_from n q o t xs ys out e h =
    words_told (suc n) q _ out (omega arith)
    (λ k l. h k (omega arith) ∙ ap (λ (z : ℤ). word_of q (z -ℤ pos (t * (get_or xs k 0 + get_or ys k 0)))) (head_at k n (o * (q / 8))))

pub inverted_from : (n q : ℕ) (xs out : List ℕ) → length out ≡ n + 1
    → ((k : ℕ) → k < n + 1 → get_or out k 0 ≡ word_of q (pos (cond (eqb k n) (q / 4) 0) -ℤ pos (get_or xs k 0)))
    → out ≡ invert n q xs
unfolding invert
inverted_from n q xs out e h =
    words_told (suc n) q _ out (omega arith)
    (λ k l. h k (omega arith) ∙ ap (λ (z : ℤ). word_of q (z -ℤ pos (get_or xs k 0))) (head_at k n (q / 4)))

-- a word counts as its remainder in rounding
pub rounded_rest : (R S c : ℕ) → 0 < R → rounded R S (c % R) % S ≡ rounded R S c % S
rounded_rest R S c some =
    let d : R * (c / R) + c % R ≡ c = div-add-mod c R in
    let two : 2 * R * (c / R * S) ≡ 2 * (R * (c / R)) * S = shuffle R (c / R) S in
    let e : 2 * c * S + R ≡ (2 * (c % R) * S + R) + 2 * R * (c / R * S) = spread R S c (c % R) (R * (c / R)) (2 * R * (c / R * S)) d two in
    let f : (2 * c * S + R) / (2 * R) ≡ rounded R S (c % R) + c / R * S =
    ap (λ (n : ℕ). n / (2 * R)) e ∙ add-mul-div_left (2 * (c % R) * S + R) (c / R * S) (omega arith) in
    sym (ap (λ (n : ℕ). n % S) f ∙ add-mul-mod_self_right (rounded R S (c % R)) (c / R) S)
  where
    shuffle : (R k S : ℕ) → 2 * R * (k * S) ≡ 2 * (R * k) * S
    shuffle R k S = omega arith

    spread : (R S c m w v : ℕ) → w + m ≡ c → v ≡ 2 * w * S → 2 * c * S + R ≡ (2 * m * S + R) + v
    spread R S c m w v e f = let h : 2 * c * S ≡ 2 * (w + m) * S = ap (λ (n : ℕ). 2 * n * S) (sym e) in omega arith

pub narrowed_from : (n R S : ℕ) (xs out : List ℕ) → length out ≡ n
    → ((k : ℕ) → k < n → get_or out k 0 ≡ rounded R S (get_or xs k 0) % S) → out ≡ narrow n R S xs
unfolding narrow
narrowed_from n R S xs out e h = fill_by_all (λ j. rounded R S (get_or xs j 0) % S) out n 0 e h

pub extracted_from : (N Q : ℕ) (xs out : List ℕ) → length out ≡ N + 1
    → ((k : ℕ) → k < N + 1 → get_or out k 0 ≡ word_of Q (extracted N (pos (Q / 8)) (coeffs xs) k)) → out ≡ extract N Q xs
unfolding extract
extracted_from N Q xs out e h = words_told (suc N) Q _ out (omega arith) (λ k l. h k (omega arith))

-- the three kinds of extracted words
pub extracted_last : (N Q : ℕ) (xs : List ℕ) (j : ℕ) → 0 < Q → j ≡ N → Q / 8 ≡ word_of Q (extracted N (pos (Q / 8)) (coeffs xs) j)
extracted_last N Q xs j some e =
    sym (mod-eq_of_lt (omega arith))
    ∙ ap (λ (b : Bool). word_of Q (cond b (pos (Q / 8)) (cond (eqb j 0) (coeffs xs 0) (neg_ℤ (coeffs xs (N - j)))))) (sym (eq-eqb j N e))

pub extracted_first : (N Q : ℕ) (xs : List ℕ) (j : ℕ) → j ≢ N → j ≡ 0 → get_or xs 0 0 % Q ≡ word_of Q (extracted N (pos (Q / 8)) (coeffs xs) j)
extracted_first N Q xs j n e =
    ap (λ (b : Bool). word_of Q (cond b (coeffs xs 0) (neg_ℤ (coeffs xs (N - j))))) (sym (eq-eqb j 0 e))
    ∙ ap (λ (b : Bool). word_of Q (cond b (pos (Q / 8)) (cond (eqb j 0) (coeffs xs 0) (neg_ℤ (coeffs xs (N - j)))))) (sym (ne_eqb j N n))

pub extracted_next : (N Q : ℕ) (xs : List ℕ) (j : ℕ) → j ≢ N → j ≢ 0
    → word_of Q (pos 0 -ℤ pos (get_or xs (N - j) 0)) ≡ word_of Q (extracted N (pos (Q / 8)) (coeffs xs) j)
extracted_next N Q xs j n e =
    ap (word_of Q) (none (pos (get_or xs (N - j) 0)))
    ∙ ap (λ (b : Bool). word_of Q (cond b (coeffs xs 0) (neg_ℤ (coeffs xs (N - j))))) (sym (ne_eqb j 0 e))
    ∙ ap (λ (b : Bool). word_of Q (cond b (pos (Q / 8)) (cond (eqb j 0) (coeffs xs 0) (neg_ℤ (coeffs xs (N - j)))))) (sym (ne_eqb j N n))
  where
    none : (z : ℤ) → pos 0 -ℤ z ≡ neg_ℤ z
    none z = omega (arith, ints)
