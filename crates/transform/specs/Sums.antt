-- Sums of numbers, up to remainders.
use Rattle.std.specs.Prelude.{◌≡◌, ℕ, zero, suc, ◌+◌, ◌*◌, ◌<◌, refl}
use Rattle.std.proofs.Common.{sym, ◌∙◌, ap, mul-add, add-suc, add-zero, mul-zero, arith}
use Rattle.rings.proofs.Mod.{Same, same_add}
use Rattle.transform.specs.Values.{sum}

pub sum_same : (Q n : ℕ) (g h : ℕ → ℕ) → ((k : ℕ) → k < n → Same Q (g k) (h k)) → Same Q (sum n g) (sum n h)
sum_same Q zero g h f = refl
sum_same Q (suc n) g h f =
    same_add Q (sum n g) (sum n h) (g n) (h n) (sum_same Q n g h (λ k l. f k (omega arith))) (f n (omega arith))

pub sum_is : (n : ℕ) (g h : ℕ → ℕ) → ((k : ℕ) → g k ≡ h k) → sum n g ≡ sum n h
sum_is zero g h f = refl
sum_is (suc n) g h f = ap (λ a. a + g n) (sum_is n g h f) ∙ ap (λ a. sum n h + a) (f n)

pub sum_plus : (n : ℕ) (g h : ℕ → ℕ) → sum n (λ k. g k + h k) ≡ sum n g + sum n h
sum_plus zero g h = refl
sum_plus (suc n) g h = let i : sum n (λ k. g k + h k) ≡ sum n g + sum n h = sum_plus n g h in omega arith

pub sum_times : (n c : ℕ) (g : ℕ → ℕ) → sum n (λ k. c * g k) ≡ c * sum n g
sum_times zero c g = sym (mul-zero c)
sum_times (suc n) c g = ap (λ a. a + c * g n) (sum_times n c g) ∙ sym (mul-add c (sum n g) (g n))

pub sum_split : (m n : ℕ) (g : ℕ → ℕ) → sum (m + n) g ≡ sum m g + sum n (λ k. g (m + k))
sum_split m zero g = ap (λ i. sum i g) (add-zero m) ∙ sym (add-zero (sum m g))
sum_split m (suc n) g =
    let i : sum (m + n) g ≡ sum m g + sum n (λ k. g (m + k)) = sum_split m n g in
    ap (λ j. sum j g) (add-suc m n) ∙ omega arith
