-- What is done place by place.
use Rattle.std.specs.Prelude.{◌≡◌, ℕ, ◌+◌, ◌-◌, ◌*◌, ◌/◌, ◌%◌, ◌^◌, ◌<◌, ◌≤◌, List, map, length, slice_index}
use Rattle.std.specs.List.{range_with_len}
use Rattle.rings.specs.declared.ring.Ring.{Ring}

-- bits is the number of bits of Q, and mu the quotient of 4^bits by Q
pub record Barrett (Q mu bits : ℕ) : Type 0 where
  pub some : 0 < bits
  pub few : bits < 32
  pub low : 2 ^ (bits - 1) ≤ Q
  pub high : Q < 2 ^ 31
  pub square : Q * Q ≤ 2 ^ (bits - 1) * 2 ^ (bits + 1)
  pub quotient : mu ≡ 2 ^ (bits - 1) * 2 ^ (bits + 1) / Q

-- c + a b modulo Q
abbrev pub fused_word : ℕ → ℕ → ℕ → ℕ → ℕ
fused_word Q c a b = (c + a * b % Q) % Q

-- c + a b at each of n places
unfoldable pub pointwise : ℕ → ℕ → List ℕ → List ℕ → List ℕ → List ℕ
pointwise n Q c a b = map (λ k. fused_word Q (slice_index c k) (slice_index a k) (slice_index b k)) (range_with_len 0 n)

-- the same at each place of c, in a ring
abbrev pub fused_at : Ring → List ℕ → List ℕ → List ℕ → List ℕ
fused_at r c a b = pointwise (length c) r.modulus c a b

-- each word times 1 / N
unfoldable pub scaled : Ring → List ℕ → List ℕ
scaled r y = map (λ k. slice_index y k * r.inverse % r.modulus) (range_with_len 0 (length y))
