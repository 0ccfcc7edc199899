-- Products of forms, place by place, are the forms of products.
use Rattle.std.proofs.Common.{◌≡◌, ℕ, zero, suc, ◌+◌, ◌*◌, ◌%◌, ◌^◌, ◌<◌, List, length, get_or, ℤ, pos, negsuc, ◌+ℤ◌, ◌*ℤ◌, sym, refl, ap, ◌∙◌, ap₂, mod-lt, mul_comm, arith}
use lib.IntN.{pow}
use Rattle.std.proofs.lemmas.List.FromFn.{length-map-range_with_len, get_or-map-range_with_len, fill_by_all}
use Rattle.algebra.specs.Ints.{Cong, sum_z}
use Rattle.algebra.specs.Polys.{Poly, plus, mul, eval}
use Rattle.algebra.specs.Words.{coeffs}
use Rattle.algebra.proofs.Cong.{same, cong_refl, cong_sym, cong_trans, cong_add, cong_mul}
use Rattle.algebra.proofs.Eval.{pow_mul, pow_pos, pow_odd, pow_cong, eval_plus, eval_alike, eval_mul}
use Rattle.algebra.proofs.Bridge.{mod_cong, word_unique}
use Rattle.algebra.proofs.Words.{fused_alike}
use Rattle.rings.specs.declared.ring.Ring.{Ring}
use Rattle.rings.specs.Tables.{mirror}
use Rattle.kernels.specs.Polynomials.{poly_of, fused_in}
use Rattle.kernels.specs.Reading.{folded}
use Rattle.kernels.specs.Reduced.{reduced_poly, reduced_at}
use Rattle.transform.specs.Order.{order}
use Rattle.transform.specs.Pointwise.{fused_word, fused_at, pointwise}
use Rattle.transform.specs.Reads.{reads}
use Rattle.transform.specs.Values.{sum, values}
use Rattle.transform.specs.Reading.{values_at, values_poly, values_reads, reads_rest}
use Rattle.transform.specs.Return.{root_turns}
use Rattle.kernels.specs.PlainKernelLemmas.{some}

module _ (n Q : ℕ) (c a b : List ℕ) where
  abbrev at : ℕ → ℕ
  at k = fused_word Q (get_or c k 0) (get_or a k 0) (get_or b k 0)

  pub pointwise_long : length (pointwise n Q c a b) ≡ n
  unfolding pointwise
  pointwise_long = length-map-range_with_len at 0 n

  pub pointwise_at : (k : ℕ) → k < n → get_or (pointwise n Q c a b) k 0 ≡ fused_word Q (get_or c k 0) (get_or a k 0) (get_or b k 0)
  unfolding pointwise
  pointwise_at k h = get_or-map-range_with_len at 0 n k k 0 h (omega arith)

  pub pointwise_from : (x : List ℕ) → length x ≡ n
      → ((k : ℕ) → k < n → get_or x k 0 ≡ fused_word Q (get_or c k 0) (get_or a k 0) (get_or b k 0)) → x ≡ pointwise n Q c a b
  unfolding pointwise
  pointwise_from x e f = fill_by_all at x n 0 e f

-- a fused word as an integer
fused_cong : (Q c a b : ℕ) (x y z : ℤ) → Cong Q (pos c) x → Cong Q (pos a) y → Cong Q (pos b) z
    → Cong Q (pos (fused_word Q c a b)) (x +ℤ y *ℤ z)
fused_cong Q c a b x y z hx hy hz =
    cong_trans Q (mod_cong Q (c + a * b % Q)) (cong_add Q hx (cong_trans Q (mod_cong Q (a * b)) (cong_mul Q hy hz)))

-- a sum of numbers as a sum of integers
sum_pos : (n : ℕ) (g : ℕ → ℕ) (h : ℕ → ℤ) → ((k : ℕ) → pos (g k) ≡ h k) → pos (sum n g) ≡ sum_z n h
unfolding sum_z
sum_pos zero g h e = refl
sum_pos (suc n) g h e = ap₂ ◌+ℤ◌ (sum_pos n g h e) (e n)

module _ (r : Ring) where
  abbrev Q : ℕ
  Q = r.modulus

  -- the point of place k
  abbrev point : ℕ → ℤ
  point k = pos (r.root ^ order r.log k)

  -- ---- a word of a form is the value at the place's point
  pub values_cong : (p : List ℕ) (k : ℕ) → k < r.degree
      → Cong r.modulus (pos (get_or (values r p) k 0)) (eval r.degree (coeffs p) (pos (r.root ^ order r.log k)))
  unfolding eval
  values_cong p k l =
      let e : ℕ = order r.log k in
      let term : (i : ℕ) → pos (get_or p i 0 * r.root ^ (i * e)) ≡ coeffs p i *ℤ pow (pos (r.root ^ e)) i =
      λ i. ap (λ (z : ℤ). pos (get_or p i 0) *ℤ z)
      (ap (λ (j : ℕ). pos (r.root ^ j)) (mul_comm i e)
      ∙ (pow_pos r.root (e * i) ∙ (pow_mul (pos r.root) e i ∙ ap (λ (z : ℤ). pow z i) (sym (pow_pos r.root e))))) in
      cong_trans Q (same Q _ _ (ap pos (values_at r p k l)))
      (cong_trans Q (mod_cong Q (sum r.degree (λ i. get_or p i 0 * r.root ^ (i * e))))
      (same Q _ _ (sum_pos r.degree (λ i. get_or p i 0 * r.root ^ (i * e)) (λ i. coeffs p i *ℤ pow (pos (r.root ^ e)) i) term)))

  -- each point is a root of X^N + 1
  point_turns : (k : ℕ) → Cong r.modulus (pow (pos (r.root ^ order r.log k)) r.degree) (negsuc 0)
  point_turns k =
      let m : ℕ = mirror r.log k in
      let e : ℕ = order r.log k in
      let N : ℕ = r.degree in
      let ψ : ℤ = pos r.root in
      let turn : pow (pos (r.root ^ e)) N ≡ pow (pow ψ N) e =
      ap (λ (i : ℤ). pow i N) (pow_pos r.root e)
      ∙ (sym (pow_mul ψ e N) ∙ (ap (λ (i : ℕ). pow ψ i) (mul_comm e N) ∙ pow_mul ψ N e)) in
      let base : Cong Q (pow ψ N) (negsuc 0) = cong_trans Q (same Q _ _ (sym (pow_pos r.root N))) (root_turns r) in
      cong_trans Q (same Q _ _ turn) (cong_trans Q (pow_cong Q e base) (same Q _ _ (pow_odd m)))

  -- ---- the form of a sum and product
  pub folds : (c a b : List ℕ)
      → values r (fused_in r c a b) ≡ pointwise r.degree r.modulus (values r c) (values r a) (values r b)
  folds c a b =
      pointwise_from r.degree Q (values r c) (values r a) (values r b) (values r f) (values_poly r f).0 each
    where
      f : List ℕ
      f = fused_in r c a b

      each : (k : ℕ) → k < r.degree
          → get_or (values r (fused_in r c a b)) k 0 ≡ fused_word r.modulus (get_or (values r c) k 0) (get_or (values r a) k 0) (get_or (values r b) k 0)
      each k l =
          let z : ℤ = point k in
          let N : ℕ = r.degree in
          let f : List ℕ = fused_in r c a b in
          let hf = values_poly r f in
          let product : Poly = mul N (coeffs a) (coeffs b) in
          let left : Cong Q (pos (get_or (values r f) k 0)) (eval N (coeffs c) z +ℤ eval N (coeffs a) z *ℤ eval N (coeffs b) z) =
          cong_trans Q (values_cong f k l)
          (cong_trans Q (eval_alike Q N (coeffs f) (plus (coeffs c) product) z (fused_alike N Q c a b (some r)))
          (cong_trans Q (same Q _ _ (eval_plus N (coeffs c) product z))
          (cong_add Q (cong_refl Q (eval N (coeffs c) z)) (eval_mul Q N z (point_turns k) (coeffs a) (coeffs b))))) in
          let right =
          fused_cong Q (get_or (values r c) k 0) (get_or (values r a) k 0) (get_or (values r b) k 0) (eval N (coeffs c) z) (eval N (coeffs a) z)
          (eval N (coeffs b) z) (values_cong c k l) (values_cong a k l) (values_cong b k l) in
          word_unique Q _ _ (hf.1 k (omega (arith, hf.0)))
          (mod-lt (get_or (values r c) k 0 + get_or (values r a) k 0 * get_or (values r b) k 0 % Q) (some r))
          (cong_trans Q left (cong_sym Q right))

  -- words of Q and above count as their remainders
  pointwise_rest : (c a b : List ℕ)
      → pointwise r.degree r.modulus c a b ≡ pointwise r.degree r.modulus (poly_of r c) (poly_of r a) (poly_of r b)
  pointwise_rest c a b =
      pointwise_from r.degree Q (poly_of r c) (poly_of r a) (poly_of r b) (pointwise r.degree Q c a b)
      (pointwise_long r.degree Q c a b) (λ k l. pointwise_at r.degree Q c a b k l ∙ each k l)
    where
      word : (x : List ℕ) (k : ℕ) → k < r.degree → Cong r.modulus (pos (get_or (poly_of r x) k 0)) (pos (get_or x k 0))
      word x k l = cong_trans Q (same Q _ _ (ap pos (reduced_at r.degree Q x k l))) (mod_cong Q (get_or x k 0))

      each : (k : ℕ) → k < r.degree
          → fused_word r.modulus (get_or c k 0) (get_or a k 0) (get_or b k 0)
          ≡ fused_word r.modulus (get_or (poly_of r c) k 0) (get_or (poly_of r a) k 0) (get_or (poly_of r b) k 0)
      each k l =
          word_unique Q _ _ (mod-lt (get_or c k 0 + get_or a k 0 * get_or b k 0 % Q) (some r))
          (mod-lt (get_or (poly_of r c) k 0 + get_or (poly_of r a) k 0 * get_or (poly_of r b) k 0 % Q) (some r))
          (cong_trans Q
          (fused_cong Q (get_or c k 0) (get_or a k 0) (get_or b k 0) (pos (get_or c k 0)) (pos (get_or a k 0)) (pos (get_or b k 0)) (cong_refl Q _) (cong_refl Q _) (cong_refl Q _))
          (cong_sym Q
          (fused_cong Q (get_or (poly_of r c) k 0) (get_or (poly_of r a) k 0) (get_or (poly_of r b) k 0) (pos (get_or c k 0)) (pos (get_or a k 0)) (pos (get_or b k 0))
          (word c k l) (word a k l) (word b k l))))

  -- what is folded place by place is the form of c + a b, of the polynomials that the words read as
  pub fold_reads : (c a b : List ℕ) → pointwise r.degree r.modulus c a b ≡ folded reads values r c a b
  fold_reads c a b =
      let own : (w : List ℕ) → poly_of r w ≡ values r (reads r w) =
      λ w. sym (values_reads r (poly_of r w) (reduced_poly r.degree Q w (some r))) ∙ ap (λ (i : List ℕ). values r i) (sym (reads_rest r w)) in
      pointwise_rest c a b
      ∙ (ap (λ (i : List ℕ). pointwise r.degree Q i (poly_of r a) (poly_of r b)) (own c)
      ∙ (ap (λ (i : List ℕ). pointwise r.degree Q (values r (reads r c)) i (poly_of r b)) (own a)
      ∙ (ap (λ (i : List ℕ). pointwise r.degree Q (values r (reads r c)) (values r (reads r a)) i) (own b)
      ∙ sym (folds (reads r c) (reads r a) (reads r b)))))

  -- the same at each of N places of c
  pub fold_at : (c a b : List ℕ) → length c ≡ r.degree → fused_at r c a b ≡ folded reads values r c a b
  fold_at c a b long = ap (λ (n : ℕ). pointwise n r.modulus c a b) long ∙ fold_reads c a b
