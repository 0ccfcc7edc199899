-- Rows of N words in one list, and one of them written.
use Rattle.std.proofs.Common.{◌≡◌, ℕ, ◌+◌, ◌-◌, ◌*◌, ◌<◌, ◌≤◌, List, length, take, drop, sym, ap, ◌∙◌, mul-le-mul_right, add-mul, one-mul, arith}
use borrow.Rule.Slice.PartMut.{put_mid}
use Rattle.std.proofs.lemmas.List.{drop-take}
use Rattle.std.proofs.lemmas.Slice.{take-put_mid_below, between-put_mid}
use Rattle.sweeps.specs.Forms.{row_of}

-- a row before the end lies within the list
pub row_ends : (i n count : ℕ) → i < count → i * n + n ≤ count * n
row_ends i n count h =
    let k : (i + 1) * n ≤ count * n = mul-le-mul_right n (omega arith) in
    omega (arith, add-mul i 1 n, one-mul n)

-- the row that was written, and a row before it
pub row_same : (n i : ℕ) (xs ys : List ℕ) → i * n + n ≤ length xs → length ys ≡ n → row_of n (put_mid (i * n) n xs ys) i ≡ ys
row_same n i xs ys h l =
    let e : (i * n + n) - i * n ≡ n = omega arith in
    ap (λ (k : ℕ). take k (drop (i * n) (put_mid (i * n) n xs ys))) (sym e)
    ∙ between-put_mid (i * n) n xs ys (i * n + n) (omega arith) (l ∙ sym e)

pub row_below : (n i j : ℕ) (xs ys : List ℕ) → j < i → i * n + n ≤ length xs → row_of n (put_mid (i * n) n xs ys) j ≡ row_of n xs j
row_below n i j xs ys l h =
    sym (drop-take (j * n) n (put_mid (i * n) n xs ys))
    ∙ ap (drop (j * n)) (take-put_mid_below (i * n) n xs ys (j * n + n) (row_ends j n i l) (omega arith))
    ∙ drop-take (j * n) n xs
