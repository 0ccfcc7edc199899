-- A stage and its way back, as congruences.
use Rattle.std.specs.Prelude.{◌≡◌, ℕ, ◌+◌, ◌-◌, ◌*◌, ◌%◌, ◌<◌, ◌≤◌, List, [], ◌∷◌, length, ℤ, pos, negsuc, ◌+ℤ◌, ◌*ℤ◌, neg_ℤ, slice_index, slice_index_or, refl}
use Rattle.std.proofs.Common.{ap, mod-lt, arith}
use Rattle.std.proofs.lemmas.Int.{ints}
use Rattle.algebra.specs.Ints.{Cong}
use Rattle.algebra.proofs.Solve.{ring, forms}
use Rattle.algebra.proofs.Cong.{same, cong_refl, cong_trans, cong_add, cong_mul, cong_neg, cong_scale}
use Rattle.algebra.proofs.Bridge.{mod_cong}
use Rattle.transform.specs.Stages.{plus, minus, staged, unstaged, sums, diffs}
use Rattle.transform.specs.Pairs.{by_half, by_pair}
use Rattle.transform.specs.Steps.{staged_is, unstaged_is}

-- ---- over the integers
add_up : (c a b : ℤ) → c *ℤ (a +ℤ b) +ℤ c *ℤ (a +ℤ neg_ℤ b) ≡ pos 2 *ℤ c *ℤ a
add_up c a b = ring (c ∷ a ∷ b ∷ []) (search forms depth 9) (search forms depth 9) refl

take_off : (c a x w v : ℤ)
    → (c *ℤ (a +ℤ neg_ℤ (x *ℤ w)) +ℤ neg_ℤ (c *ℤ (a +ℤ x *ℤ w))) *ℤ v ≡ neg_ℤ (pos 2 *ℤ c *ℤ x) *ℤ (w *ℤ v)
take_off c a x w v = ring (c ∷ a ∷ x ∷ w ∷ v ∷ []) (search forms depth 12) (search forms depth 12) refl

twice_neg : (x : ℤ) → neg_ℤ x *ℤ negsuc 0 ≡ x
twice_neg x = omega (arith, ints)

half_sum : (c u v : ℤ) → c *ℤ (u +ℤ v) +ℤ c *ℤ (v +ℤ neg_ℤ u) *ℤ negsuc 0 ≡ pos 2 *ℤ c *ℤ u
half_sum c u v = ring (c ∷ u ∷ v ∷ []) (search forms depth 9) (search forms depth 9) refl

half_less : (c u v : ℤ) → c *ℤ (u +ℤ v) +ℤ neg_ℤ (c *ℤ (v +ℤ neg_ℤ u) *ℤ negsuc 0) ≡ pos 2 *ℤ c *ℤ v
half_less c u v = ring (c ∷ u ∷ v ∷ []) (search forms depth 9) (search forms depth 9) refl

regroup : (c d v w : ℤ) → c *ℤ (d *ℤ v) *ℤ w ≡ c *ℤ d *ℤ (w *ℤ v)
regroup c d v w = ring (c ∷ d ∷ v ∷ w ∷ []) (search forms depth 9) (search forms depth 9) refl

-- z is c times y, word by word
abbrev pub Times : ℕ → ℤ → ℕ → List ℕ → List ℕ → Type 0
Times Q c n z y = (k : ℕ) → k < n → Cong Q (pos (slice_index z k)) (c *ℤ pos (slice_index y k))

-- each root times the root at the other end of its row is -1
abbrev pub Anti : ℕ → List ℕ → Type 0
Anti Q w = (j : ℕ) → j < length w → Cong Q (pos (slice_index w j) *ℤ pos (slice_index w (length w - 1 - j))) (negsuc 0)

module _ (Q : ℕ) (q0 : 0 < Q) where
  -- ---- a word as an integer
  is : {a b : ℕ} {z : ℤ} → a ≡ b → Cong Q (pos b) z → Cong Q (pos a) z
  is e h = cong_trans Q (same Q _ _ (ap pos e)) h

  less_is : (a t : ℕ) → t ≤ Q → Cong Q (pos (a + (Q - t))) (pos a +ℤ neg_ℤ (pos t))
  less_is a t h = record { times = pos 1; is = omega (arith, ints) }

  plus_is : (w x : List ℕ) (j : ℕ)
      → Cong Q (pos (plus Q w x j)) (pos (slice_index x j) +ℤ pos (slice_index x (j + length w)) *ℤ pos (slice_index w j))
  plus_is w x j =
      let t : ℕ = slice_index x (j + length w) * slice_index_or w j 0 in
      cong_trans Q (mod_cong Q (slice_index x j + t % Q)) (cong_add Q (cong_refl Q (pos (slice_index x j))) (mod_cong Q t))

  minus_is : (w x : List ℕ) (j : ℕ)
      → Cong Q (pos (minus Q w x j)) (pos (slice_index x j) +ℤ neg_ℤ (pos (slice_index x (j + length w)) *ℤ pos (slice_index w j)))
  minus_is w x j =
      let t : ℕ = slice_index x (j + length w) * slice_index_or w j 0 in
      let l : t % Q ≤ Q = omega (arith, mod-lt t q0) in
      cong_trans Q (mod_cong Q (slice_index x j + (Q - t % Q)))
      (cong_trans Q (less_is (slice_index x j) (t % Q) l) (cong_add Q (cong_refl Q (pos (slice_index x j))) (cong_neg Q (mod_cong Q t))))

  sums_is : (y : List ℕ) (j : ℕ) → Cong Q (pos (sums Q y j)) (pos (slice_index y (2 * j)) +ℤ pos (slice_index y (2 * j + 1)))
  sums_is y j = mod_cong Q (slice_index y (2 * j) + slice_index y (2 * j + 1))

  diffs_is : (w y : List ℕ) (j : ℕ) → slice_index y (2 * j) ≤ Q
      → Cong Q (pos (diffs Q w y j)) ((pos (slice_index y (2 * j + 1)) +ℤ neg_ℤ (pos (slice_index y (2 * j)))) *ℤ pos (slice_index w (length w - 1 - j)))
  diffs_is w y j f =
      let u : ℕ = slice_index_or y (2 * j) 0 in
      let v : ℕ = slice_index_or y (2 * j + 1) 0 in
      let a : ℕ = slice_index_or w (length w - 1 - j) 0 in
      cong_trans Q (mod_cong Q ((v + (Q - u)) * a)) (cong_mul Q (less_is v u f) (cong_refl Q (pos a)))

  -- ---- the way back from c times a stage is 2 c times what stood before it
  low_is : (u v a b c : ℤ) → Cong Q u (c *ℤ (a +ℤ b)) → Cong Q v (c *ℤ (a +ℤ neg_ℤ b)) → Cong Q (u +ℤ v) (pos 2 *ℤ c *ℤ a)
  low_is u v a b c hu hv = cong_trans Q (cong_add Q hu hv) (same Q _ _ (add_up c a b))

  high_is : (u v a x w w' c : ℤ) → Cong Q u (c *ℤ (a +ℤ x *ℤ w)) → Cong Q v (c *ℤ (a +ℤ neg_ℤ (x *ℤ w)))
      → Cong Q (w *ℤ w') (negsuc 0) → Cong Q ((v +ℤ neg_ℤ u) *ℤ w') (pos 2 *ℤ c *ℤ x)
  high_is u v a x w w' c hu hv hw =
      cong_trans Q (cong_mul Q (cong_add Q hv (cong_neg Q hu)) (cong_refl Q w'))
      (cong_trans Q (same Q _ _ (take_off c a x w w'))
      (cong_trans Q (cong_scale Q (neg_ℤ (pos 2 *ℤ c *ℤ x)) hw) (same Q _ _ (twice_neg (pos 2 *ℤ c *ℤ x)))))

  pub undo : (w x z : List ℕ) (c : ℤ) → Anti Q w → ((k : ℕ) → k < 2 * length w → slice_index z k ≤ Q)
      → Times Q c (2 * length w) z (staged Q w x) → Times Q (pos 2 *ℤ c) (2 * length w) (unstaged Q w z) x
  undo w x z c anti fits times =
      by_half (length w) (λ k. Cong Q (pos (slice_index (unstaged Q w z) k)) (pos 2 *ℤ c *ℤ pos (slice_index x k))) each
    where
      each : (j : ℕ) → j < length w
          → Cong Q (pos (slice_index (unstaged Q w z) j)) (pos 2 *ℤ c *ℤ pos (slice_index x j))
          × Cong Q (pos (slice_index (unstaged Q w z) (j + length w))) (pos 2 *ℤ c *ℤ pos (slice_index x (j + length w)))
      each j h =
          let a : ℤ = pos (slice_index x j) in
          let b : ℤ = pos (slice_index x (j + length w)) in
          let v : ℤ = pos (slice_index w j) in
          let v' : ℤ = pos (slice_index w (length w - 1 - j)) in
          let z0 : ℤ = pos (slice_index z (2 * j)) in
          let z1 : ℤ = pos (slice_index z (2 * j + 1)) in
          let f : slice_index_or z (2 * j) 0 ≤ Q = fits (2 * j) (omega arith) in
          let hu : Cong Q z0 (c *ℤ (a +ℤ b *ℤ v)) =
          cong_trans Q (times (2 * j) (omega arith)) (cong_scale Q c (is (staged_is Q w x j h).0 (plus_is w x j))) in
          let hv : Cong Q z1 (c *ℤ (a +ℤ neg_ℤ (b *ℤ v))) =
          cong_trans Q (times (2 * j + 1) (omega arith)) (cong_scale Q c (is (staged_is Q w x j h).1 (minus_is w x j))) in (
            is (unstaged_is Q w z j h).0 (cong_trans Q (sums_is z j) (low_is z0 z1 a (b *ℤ v) c hu hv)),
            is (unstaged_is Q w z j h).1 (cong_trans Q (diffs_is w z j f) (high_is z0 z1 a b v v' c hu hv (anti j h))),
          )

  -- ---- a stage of c times the way back is 2 c times what it came from
  pub redo : (w y z : List ℕ) (c : ℤ) → Anti Q w → ((k : ℕ) → k < 2 * length w → slice_index y k ≤ Q)
      → Times Q c (2 * length w) z (unstaged Q w y) → Times Q (pos 2 *ℤ c) (2 * length w) (staged Q w z) y
  redo w y z c anti fits times =
      by_pair (length w) (λ k. Cong Q (pos (slice_index (staged Q w z) k)) (pos 2 *ℤ c *ℤ pos (slice_index y k))) each
    where
      each : (j : ℕ) → j < length w
          → Cong Q (pos (slice_index (staged Q w z) (2 * j))) (pos 2 *ℤ c *ℤ pos (slice_index y (2 * j)))
          × Cong Q (pos (slice_index (staged Q w z) (2 * j + 1))) (pos 2 *ℤ c *ℤ pos (slice_index y (2 * j + 1)))
      each j h =
          let u : ℤ = pos (slice_index y (2 * j)) in
          let v : ℤ = pos (slice_index y (2 * j + 1)) in
          let a : ℤ = pos (slice_index w j) in
          let a' : ℤ = pos (slice_index w (length w - 1 - j)) in
          let d : ℤ = v +ℤ neg_ℤ u in
          let f : slice_index_or y (2 * j) 0 ≤ Q = fits (2 * j) (omega arith) in
          let lo : Cong Q (pos (slice_index z j)) (c *ℤ (u +ℤ v)) =
          cong_trans Q (times j (omega arith)) (cong_scale Q c (is (unstaged_is Q w y j h).0 (sums_is y j))) in
          let hi : Cong Q (pos (slice_index z (j + length w))) (c *ℤ (d *ℤ a')) =
          cong_trans Q (times (j + length w) (omega arith)) (cong_scale Q c (is (unstaged_is Q w y j h).1 (diffs_is w y j f))) in
          let ha : Cong Q (pos (slice_index z (j + length w)) *ℤ a) (c *ℤ d *ℤ negsuc 0) =
          cong_trans Q (cong_mul Q hi (cong_refl Q a))
          (cong_trans Q (same Q _ _ (regroup c d a' a)) (cong_scale Q (c *ℤ d) (anti j h))) in (
            is (staged_is Q w z j h).0
                (cong_trans Q (plus_is w z j) (cong_trans Q (cong_add Q lo ha) (same Q _ _ (half_sum c u v)))),
            is (staged_is Q w z j h).1
                (cong_trans Q (minus_is w z j) (cong_trans Q (cong_add Q lo (cong_neg Q ha)) (same Q _ _ (half_less c u v)))),
          )
