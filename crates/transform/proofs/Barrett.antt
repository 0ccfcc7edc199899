-- Barrett's remainder is exact: a guess of the quotient that is at most 2 too small, and two conditional subtractions.
use Rattle.std.proofs.Common.{◌≡◌, ℕ, ◌+◌, ◌-◌, ◌*◌, ◌/◌, ◌%◌, ◌^◌, ◌<◌, ◌≤◌, ◌⊎◌, sym, ap, ◌∙◌, inl, inr, mul-le-mul_right, mod-eq_of_lt, mul_assoc, mul_comm, add-mul, lt_of_mul-lt-mul_right, mul-le-mul_left, mul-lt-mul_of_pos_right, mul-add, div-mul-le_self, le_of_mul-le-mul_right, arith, pow_pos, pow_mono}
use native.Mathlib.Nat.{lt-div-mul-add, add-mul-mod_self_right}
use Rattle.std.proofs.Math.Nat.{mul_right_comm}
use Rattle.std.proofs.lemmas.Bool.{cases_lt}
use Rattle.rings.specs.declared.ring.Ring.{Ring}
use Rattle.transform.specs.Pointwise.{Barrett}

-- n = t / a, u = a b / Q and h = n u / b, each rounded down
near : (t Q u a b n h : ℕ) → 0 < Q → 0 < b → a ≤ Q → n ≤ b → n * a ≤ t → t < n * a + a
    → u * Q ≤ a * b → a * b < u * Q + Q → h * b ≤ n * u → n * u < h * b + b
    → (h * Q ≤ t) × (t < h * Q + (Q + (Q + Q)))
near t Q u a b n h q0 b0 aq nb na nt ul ut hl ht =
    let p1 : h * b * Q ≤ n * u * Q = mul-le-mul_right Q hl in
    let p2 : n * (u * Q) ≤ n * (a * b) = mul-le-mul_left n ul in
    let p3 : n * a * b ≤ t * b = mul-le-mul_right b na in
    let e1 : n * u * Q ≡ n * (u * Q) = mul_assoc n u Q in
    let e2 : n * a * b ≡ n * (a * b) = mul_assoc n a b in
    let e3 : h * b * Q ≡ h * Q * b = mul_right_comm h b Q in
    let low : h * Q * b ≤ t * b = omega arith in
    let p4 : t * b < (n * a + a) * b = mul-lt-mul_of_pos_right nt b0 in
    let e4 : (n * a + a) * b ≡ n * a * b + a * b = add-mul (n * a) a b in
    let uu : a * b ≤ u * Q + Q = omega arith in
    let p5 : n * (a * b) ≤ n * (u * Q + Q) = mul-le-mul_left n uu in
    let e5 : n * (u * Q + Q) ≡ n * (u * Q) + n * Q = mul-add n (u * Q) Q in
    let p6 : n * u * Q < (h * b + b) * Q = mul-lt-mul_of_pos_right ht q0 in
    let e6 : (h * b + b) * Q ≡ h * b * Q + b * Q = add-mul (h * b) b Q in
    let p7 : n * Q ≤ b * Q = mul-le-mul_right Q nb in
    let p8 : a * b ≤ Q * b = mul-le-mul_right b aq in
    let e7 : b * Q ≡ Q * b = mul_comm b Q in
    let e8 : (h * Q + (Q + (Q + Q))) * b ≡ h * Q * b + (Q + (Q + Q)) * b = add-mul (h * Q) (Q + (Q + Q)) b in
    let e9 : (Q + (Q + Q)) * b ≡ Q * b + (Q + Q) * b = add-mul Q (Q + Q) b in
    let e10 : (Q + Q) * b ≡ Q * b + Q * b = add-mul Q Q b in
    let high : t * b < (h * Q + (Q + (Q + Q))) * b = omega arith in
    (le_of_mul-le-mul_right low b0, lt_of_mul-lt-mul_right b high)

barrett_bounds : (t Q u a b : ℕ) → 0 < Q → 0 < a → 0 < b → a ≤ Q → t < a * b → u ≡ a * b / Q
    → (t / a * u / b * Q ≤ t) × (t < t / a * u / b * Q + (Q + (Q + Q)))
barrett_bounds t Q u a b q0 a0 b0 aq tab e =
    let na : t / a * a ≤ t = div-mul-le_self t a in
    let nt : t < t / a * a + a = lt-div-mul-add a0 in
    let f : u * Q ≡ a * b / Q * Q = ap (λ n. n * Q) e in
    let ul : a * b / Q * Q ≤ a * b = div-mul-le_self (a * b) Q in
    let ut : a * b < a * b / Q * Q + Q = lt-div-mul-add q0 in
    let hl : t / a * u / b * b ≤ t / a * u = div-mul-le_self (t / a * u) b in
    let ht : t / a * u < t / a * u / b * b + b = lt-div-mul-add b0 in
    let c : a * b ≡ b * a = mul_comm a b in
    let nlt : t / a * a < b * a = omega arith in
    let nb : t / a < b = lt_of_mul-lt-mul_right a nlt in
    near t Q u a b (t / a) (t / a * u / b) q0 b0 aq (omega arith) na nt (omega arith) (omega arith) hl ht

-- the guess of the quotient
abbrev pub guess : ℕ → ℕ → ℕ → ℕ
guess t u k = t / 2 ^ (k - 1) * u / 2 ^ (k + 1)

pub record Guessed (t Q u k : ℕ) : Type 0 where
  pub top : t / 2 ^ (k - 1) < 4294967296
  pub small : guess t u k < 4294967296
  pub low : guess t u k * Q ≤ t
  pub high : t < guess t u k * Q + (Q + (Q + Q))

near_guess : (t Q u k : ℕ) → k < 32 → 2 ^ (k - 1) ≤ Q → Q < 2147483648 → u ≡ 2 ^ (k - 1) * 2 ^ (k + 1) / Q
    → t < 2 ^ (k - 1) * 2 ^ (k + 1) → t < Q * Q → Guessed t Q u k
near_guess t Q u k few bits fits e below square =
    let a0 : 0 < 2 ^ (k - 1) = pow_pos (k - 1) in
    let b0 : 0 < 2 ^ (k + 1) = pow_pos (k + 1) in
    let q0 : 0 < Q = omega arith in
    let r : (guess t u k * Q ≤ t) × (t < guess t u k * Q + (Q + (Q + Q))) =
    barrett_bounds t Q u (2 ^ (k - 1)) (2 ^ (k + 1)) q0 a0 b0 bits below e in
    let bb : 2 ^ (k + 1) ≤ 2 ^ 32 = pow_mono {i = k + 1} {j = 32} (omega arith) in
    let na : t / 2 ^ (k - 1) * 2 ^ (k - 1) ≤ t = div-mul-le_self t (2 ^ (k - 1)) in
    let cm : 2 ^ (k - 1) * 2 ^ (k + 1) ≡ 2 ^ (k + 1) * 2 ^ (k - 1) = mul_comm (2 ^ (k - 1)) (2 ^ (k + 1)) in
    let nl : t / 2 ^ (k - 1) * 2 ^ (k - 1) < 2 ^ (k + 1) * 2 ^ (k - 1) = omega arith in
    let nb : t / 2 ^ (k - 1) < 2 ^ (k + 1) = lt_of_mul-lt-mul_right (2 ^ (k - 1)) nl in
    let nn : t / 2 ^ (k - 1) < 4294967296 = omega arith in
    let hq : guess t u k * Q < Q * Q = omega arith in
    let hh : guess t u k < Q = lt_of_mul-lt-mul_right Q hq in
    record { top = nn; small = omega arith; low = r.0; high = r.1 }

-- the same for a u of 32 bits
pub guessed : (t Q u k : ℕ) → k < 32 → 2 ^ (k - 1) ≤ Q → Q < 2147483648 → u ≡ 2 ^ (k - 1) * 2 ^ (k + 1) / Q
    → t < 2 ^ (k - 1) * 2 ^ (k + 1) → t < Q * Q → u < 4294967296 → Guessed t Q u k
guessed t Q u k few bits fits e below square uw = near_guess t Q u k few bits fits e below square

-- the same by the numbers as one record
guessed_by : (t Q u k : ℕ) → Barrett Q u k → t < Q * Q → Guessed t Q u k
guessed_by t Q u k set square =
    near_guess t Q u k set.few set.low set.high set.quotient (omega (arith, set.square)) square

-- the numbers of a ring
barrett_of : (r : Ring) → Barrett r.modulus r.mu r.bits
barrett_of r = record {
  some = r.width.0;
  few = r.width.1;
  low = r.width.2;
  high = r.limits.2;
  square = r.width.3;
  quotient = r.barrett;
}

pub guessed_in : (r : Ring) (t : ℕ) → t < r.modulus * r.modulus → Guessed t r.modulus r.mu r.bits
guessed_in r t = guessed_by t r.modulus r.mu r.bits (barrett_of r)

-- a conditional subtraction of Q
pub record Less (x Q r : ℕ) : Type 0 where
  pub low : x < Q → r ≡ x
  pub high : Q ≤ x → r ≡ x - Q

pub not_more : (x Q r : ℕ) → Less x Q r → r ≤ x
not_more x Q r a = elim (cases_lt x Q) [ inl l ↦ omega (arith, a.low l) | inr l ↦ omega (arith, a.high l) ]

-- two of them, from x below 3 Q
twice : (x Q r s : ℕ) → x < Q + (Q + Q) → Less x Q r → Less r Q s → (s < Q) × ((i : ℕ) × (i * Q + s ≡ x))
twice x Q r s h a b = by (cases_lt x Q) (cases_lt r Q)
  where
    by : (x < Q) ⊎ (Q ≤ x) → (r < Q) ⊎ (Q ≤ r) → (s < Q) × ((i : ℕ) × (i * Q + s ≡ x))
    by (inl l) (inl m) = (omega (arith, a.low l, b.low m), (0, omega (arith, a.low l, b.low m)))
    by (inl l) (inr m) = (omega (arith, a.low l), (0, omega (arith, a.low l)))
    by (inr l) (inl m) = (omega (arith, a.high l, b.low m), (1, omega (arith, a.high l, b.low m)))
    by (inr l) (inr m) = (omega (arith, a.high l, b.high m), (2, omega (arith, a.high l, b.high m)))

is_rest : (t Q h s : ℕ) → h * Q ≤ t → (s < Q) × ((i : ℕ) × (i * Q + s ≡ t - h * Q)) → s ≡ t % Q
is_rest t Q h s low p =
    let e : p.1.0 * Q + s ≡ t - h * Q = p.1.1 in
    let a : s + p.1.0 * Q + h * Q ≡ t = omega arith in
    sym (ap (λ n. n % Q) (sym a)
    ∙ (add-mul-mod_self_right (s + p.1.0 * Q) h Q ∙ (add-mul-mod_self_right s p.1.0 Q ∙ mod-eq_of_lt p.0)))

pub remains : (t Q u k r s : ℕ) → Guessed t Q u k → Less (t - guess t u k * Q) Q r → Less r Q s → (s < Q) × (s ≡ t % Q)
remains t Q u k r s p a b =
    let near : t - guess t u k * Q < Q + (Q + Q) = omega (arith, p.low, p.high) in
    let w = twice (t - guess t u k * Q) Q r s near a b in
    (w.0, is_rest t Q (guess t u k) s p.low w)
