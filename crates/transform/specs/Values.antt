-- The values of a polynomial at the odd powers of a ring's root.
use Rattle.std.specs.Prelude.{ℕ, zero, suc, ◌+◌, ◌*◌, ◌%◌, ◌^◌, List, map, slice_index}
use Rattle.std.specs.List.{range_with_len}
use Rattle.rings.specs.declared.ring.Ring.{Ring}
use Rattle.transform.specs.Order.{order}

-- g 0 + g 1 + .. + g (n - 1)
abbrev pub sum : ℕ → (ℕ → ℕ) → ℕ
sum zero g = 0
sum (suc n) g = sum n g + g n

-- word k is the sum of p_i ψ^(i order k), modulo Q
unfoldable pub values : Ring → List ℕ → List ℕ
values r p =
    map (λ k. sum r.degree (λ i. slice_index p i * r.root ^ (i * order r.log k)) % r.modulus) (range_with_len 0 r.degree)
