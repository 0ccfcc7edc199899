-- Numbers that leave one remainder.
use Rattle.std.proofs.Common.{◌≡◌, ℕ, ◌+◌, ◌*◌, ◌/◌, ◌%◌, ◌^◌, ◌<◌, sym, ap, ◌∙◌, mod-eq_of_lt, mul_assoc, mul_comm, add-mul, pow-suc, add-one}
use native.Mathlib.Nat.{add-mod, mod-mod, div-add-mod, mul-add-mod_self_left, pow-zero}

-- a and b leave one remainder by Q
abbrev pub Same : ℕ → ℕ → ℕ → Type 0
Same Q a b = a % Q ≡ b % Q

pub same_add : (Q a b c d : ℕ) → Same Q a b → Same Q c d → Same Q (a + c) (b + d)
same_add Q a b c d p r =
    add-mod a c Q ∙ (ap (λ n. (n + c % Q) % Q) p ∙ (ap (λ n. (b % Q + n) % Q) r ∙ sym (add-mod b d Q)))

-- a product by the remainder of its first factor
mod_left : (a b Q : ℕ) → a * b % Q ≡ a % Q * b % Q
mod_left a b Q =
    let e : Q * (a / Q) + a % Q ≡ a = div-add-mod a Q in
    let f : (Q * (a / Q) + a % Q) * b ≡ Q * (a / Q) * b + a % Q * b = add-mul (Q * (a / Q)) (a % Q) b in
    let g : Q * (a / Q) * b ≡ Q * (a / Q * b) = mul_assoc Q (a / Q) b in
    ap (λ n. n % Q) (ap (λ n. n * b) (sym e) ∙ (f ∙ ap (λ n. n + a % Q * b) g))
    ∙ mul-add-mod_self_left Q (a / Q * b) (a % Q * b)

pub same_times : (Q a b c : ℕ) → Same Q a b → Same Q (a * c) (b * c)
same_times Q a b c p = mod_left a c Q ∙ (ap (λ n. n * c % Q) p ∙ sym (mod_left b c Q))

pub same_both : (Q a b c d : ℕ) → Same Q a b → Same Q c d → Same Q (a * c) (b * d)
same_both Q a b c d p r =
    same_times Q a b c p
    ∙ (ap (λ n. n % Q) (mul_comm b c) ∙ (same_times Q c d b r ∙ ap (λ n. n % Q) (mul_comm d b)))

-- the powers of ψ, one after the other
pub power_first : (ψ Q : ℕ) → 1 < Q → 1 ≡ ψ ^ 0 % Q
power_first ψ Q h = sym (ap (λ i. i % Q) (pow-zero ψ) ∙ mod-eq_of_lt h)

pub power_next : (p ψ e Q x : ℕ) → p ≡ ψ ^ e % Q → x ≡ p * ψ % Q → x ≡ ψ ^ (e + 1) % Q
power_next p ψ e Q x h k =
    let r : Same Q (ψ ^ e % Q * ψ) (ψ ^ e * ψ) = same_times Q (ψ ^ e % Q) (ψ ^ e) ψ (mod-mod (ψ ^ e) Q) in
    let s : ψ ^ e * ψ ≡ ψ ^ (e + 1) = sym (pow-suc ψ e) ∙ ap (λ i. ψ ^ i) (sym (add-one e)) in
    k ∙ (ap (λ i. i * ψ % Q) h ∙ (r ∙ ap (λ i. i % Q) s))
