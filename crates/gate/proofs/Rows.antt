-- Rows times digits, added modulo 2^32 and then taken modulo M.
use Rattle.std.proofs.Common.{◌≡◌, ℕ, ◌+◌, ◌*◌, ◌/◌, ◌%◌, ◌^◌, ◌<◌, ◌≤◌, List, length, get_or, take, drop, ℤ, pos, ◌+ℤ◌, ◌*ℤ◌, neg_ℤ, nat_abs, ◌≤ℤ◌, w64, sym, refl, ap, ◌∙◌, subst, mul-le-mul_right, suc-mul, add-one, arith}
use borrow.Author.Differences.{ints}
use Rattle.std.proofs.lemmas.Int.{to_z-of_z}
use mir.Val.{to_z, of_z}
use Rattle.std.proofs.lemmas.List.{get_or-take, get_or-drop}
use Rattle.algebra.proofs.Ring.{*ℤ-assoc}
use Rattle.algebra.specs.Ints.{Cong, sum_z}
use Rattle.algebra.specs.Words.{word_of}
use Rattle.algebra.proofs.Bridge.{mod_cong, word_cong}
use Rattle.algebra.proofs.Cong.{same, cong_refl, cong_trans, cong_add, cong_mul}
use Rattle.std.proofs.ByRecursion.{All-get_or}
use Rattle.words.specs.Digits.{split_of}
use Rattle.words.specs.Gadgets.{Within, SplitRight}
use Rattle.words.proofs.Steps.{base_small}
use Rattle.words.specs.declared.gadget.Gadget.{Gadget}
use Rattle.gate.specs.Stages.{Added, all_rows_of}

-- one term more of a sum, and no term
pub sum_more : (n : ℕ) (f : ℕ → ℤ) → sum_z (n + 1) f ≡ sum_z n f +ℤ f n
unfolding sum_z
sum_more n f = rw add-one refl

pub sum_none : (f : ℕ → ℤ) → sum_z 0 f ≡ pos 0
unfolding sum_z
sum_none f = refl

pub added_none : (old : List ℕ) (f : ℕ → ℕ → ℤ) → Added old old (λ t. sum_z 0 (λ i. f i t))
added_none old f t l = same (2 ^ 32) _ _ (rw (sum_none (λ i. f i t)) (none (pos (get_or old t 0))))
  where
    none : (z : ℤ) → z ≡ z +ℤ pos 0
    none z = omega (arith, ints)

-- what is added to what was added
pub added_then : (old mid new : List ℕ) (f : ℕ → ℕ → ℤ) (g : ℕ → ℤ) (n : ℕ) → length mid ≡ length old
    → Added old mid (λ t. sum_z n (λ i. f i t)) → Added mid new g → ((t : ℕ) → t < length old → g t ≡ f n t)
    → Added old new (λ t. sum_z (n + 1) (λ i. f i t))
added_then old mid new f g n e h k q t l =
    cong_trans (2 ^ 32) (k t (omega arith))
    (cong_trans (2 ^ 32) (cong_add (2 ^ 32) (h t l) (same (2 ^ 32) _ _ (q t l)))
    (same (2 ^ 32) _ _ (group (pos (get_or old t 0)) (sum_z n (λ i. f i t)) (f n t) ∙ ap (λ (z : ℤ). pos (get_or old t 0) +ℤ z) (sym (sum_more n (λ i. f i t))))))
  where
    group : (a b c : ℤ) → a +ℤ b +ℤ c ≡ a +ℤ (b +ℤ c)
    group a b c = omega (arith, ints)

-- one row, as the machine adds it
pub one_row : (digit : ℤ) (w x r y : ℕ) → w ≡ word_of (2 ^ 32) digit → y ≡ (x + w * r % 2 ^ 32) % 2 ^ 32
    → Cong (2 ^ 32) (pos y) (pos x +ℤ digit *ℤ pos r)
one_row digit w x r y e h =
    let K : ℕ = 2 ^ 32 in
    cong_trans K (same K _ _ (ap pos h))
    (cong_trans K (mod_cong K (x + w * r % K))
    (cong_add K (cong_refl K (pos x))
    (cong_trans K (mod_cong K (w * r))
    (cong_mul K (cong_trans K (same K _ _ (ap pos e)) (word_cong K digit (omega arith))) (cong_refl K (pos r))))))

-- word t of part i
pub part_at : (ws : List ℕ) (i size t : ℕ) → t < size → get_or (take size (drop (i * size) ws)) t 0 ≡ get_or ws (i * size + t) 0
part_at ws i size t l = get_or-take size (drop (i * size) ws) t 0 l ∙ get_or-drop (i * size) ws t 0

-- a congruence modulo a multiple of M
pub cong_down : (M K : ℕ) (a b : ℤ) → Cong (M * K) a b → Cong M a b
cong_down M K a b c = record { times = pos K *ℤ c.times; is = c.is ∙ ap (λ (z : ℤ). b +ℤ z) (apart M K c.times) }
  where
    apart : (M K : ℕ) (t : ℤ) → pos (M * K) *ℤ t ≡ pos M *ℤ (pos K *ℤ t)
    apart M K t = *ℤ-assoc (pos M) (pos K) t

-- digits of a word are small
pub digit_small : (R P B d x w i : ℕ) → B ≡ 2 ^ w → w ≤ 16 → SplitRight R P B d x → i < length (split_of R P B d x)
    → nat_abs (get_or (split_of R P B d x) i (pos 0)) < 2 ^ 31
digit_small R P B d x w i e few right l =
    let s : B ≤ 65536 = subst (λ (n : ℕ). n ≤ 65536) (sym e) (base_small w few) in
    let h : Within (B / 2) (get_or (split_of R P B d x) i (pos 0)) = All-get_or (Within (B / 2)) (split_of R P B d x) i (pos 0) l right.small in
    bound (get_or (split_of R P B d x) i (pos 0)) (B / 2) (omega arith) h.0 h.1
  where
    bound : (z : ℤ) (b : ℕ) → b ≤ 65536 → neg_ℤ (pos b) ≤ℤ z → z ≤ℤ pos b → nat_abs z < 2 ^ 31
    bound z b s low high = omega (arith, ints)

-- part i of n parts lies within them
pub room : (i size n : ℕ) → i < n → i * size + size ≤ n * size
room i size n h = omega (arith, mul-le-mul_right size h, suc-mul i size)

pub part_room : (i size n t : ℕ) → i < n → t < size → i * size + t < n * size
part_room i size n t h l = omega (arith, room i size n h)

-- what is added, told by other names for the lengths
pub added_lengths : (g : Gadget) (old new xs rows : List ℕ) (N w : ℕ) → length xs ≡ N → length old ≡ w
    → Added old new (λ t. sum_z (length xs) (λ j. all_rows_of g xs (length old) rows j t))
    → Added old new (λ t. sum_z N (λ j. all_rows_of g xs w rows j t))
added_lengths g old new xs rows N w e f h t l =
    subst (λ (n : ℕ). Cong (2 ^ 32) (pos (get_or new t 0)) (pos (get_or old t 0) +ℤ sum_z n (λ j. all_rows_of g xs w rows j t))) e
    (subst (λ (v : ℕ). Cong (2 ^ 32) (pos (get_or new t 0)) (pos (get_or old t 0) +ℤ sum_z (length xs) (λ j. all_rows_of g xs v rows j t))) f (h t l))

-- a digit as the machine reads it
pub digit_read : (z : ℤ) → nat_abs z < 2 ^ 31 → to_z w64 (of_z w64 z) ≡ z
digit_read z h = to_z-of_z w64 z (omega (arith, ints))
