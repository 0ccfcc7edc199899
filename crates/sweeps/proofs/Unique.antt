-- Numbers within their limits are told by the numbers alone.
use Rattle.std.proofs.Common.{◌≡◌, ℕ, ◌*◌, ◌%◌, ◌^◌, ◌<◌, ◌≤◌, false, is_some, ap, subst}
use Prim.{IsProp}
use denote.Struct.Props.{props}
use Rattle.set.specs.Limits.{limits_broken}
use Rattle.set.specs.declared.numbers.Numbers.{Numbers}
use Rattle.set.specs.declared.within.Within.{Within}
use Rattle.sweeps.specs.Checking.{StatedFor}

-- what is known of them, each fact in one way only
abbrev First : Numbers → Type 0
First n = is_some (limits_broken n) ≡ false

abbrev Second : Numbers → Type 0
Second n = (16 ≤ n.degree) × (n.degree ≤ 1024) × (2 ≤ n.dimension) × (n.dimension ≤ 512)

abbrev Third : Numbers → Type 0
Third n = (32 ≤ n.small) × (n.small ≤ 2 * n.degree) × (17 ≤ n.modulus) × (n.modulus < 2 ^ 31)

abbrev Fourth : Numbers → Type 0
Fourth n = (n.dropped ≤ 65536) × (n.base ≤ 65536) × (1 ≤ n.digits) × (n.digits ≤ 31) × (n.noise ≤ 1024)

abbrev Fifth : Numbers → Type 0
Fifth n = (n.weight ≤ n.degree) × (n.ones ≤ n.dimension) × (n.dimension % 2 ≡ 0)

abbrev Sixth : Numbers → Type 0
Sixth n = (32 ≤ n.switch) × (n.switch ≤ 2 ^ 20) × (n.radix ≤ 1024) × (1 ≤ n.places) × (n.places ≤ 20)

abbrev Seventh : Numbers → Type 0
Seventh n = (n.jitter ≤ 1024) × (n.bound ≤ 128)

abbrev Known : Numbers → Type 0
Known n = First n × (Second n × (Third n × (Fourth n × (Fifth n × (Sixth n × Seventh n)))))

both : {A B : Type 0} → IsProp A → IsProp B → IsProp (A × B)
both a b p q = λ i. (a p.0 q.0 i, b p.1 q.1 i)

known_once : (n : Numbers) → IsProp (Known n)
known_once n =
    let a : IsProp (First n) = hlevel props in
    let b : IsProp (Second n) = hlevel props in
    let c : IsProp (Third n) = hlevel props in
    let d : IsProp (Fourth n) = hlevel props in
    let e : IsProp (Fifth n) = hlevel props in
    let f : IsProp (Sixth n) = hlevel props in
    let g : IsProp (Seventh n) = hlevel props in
    both a (both b (both c (both d (both e (both f g)))))

make : (n : Numbers) → Known n → Within
make n k =
    record {
      numbers = n;
      fit = k.0;
      lengths = k.1.0;
      moduli = k.1.1.0;
      split = k.1.1.1.0;
      secrets = k.1.1.1.1.0;
      switching = k.1.1.1.1.1.0;
      last = k.1.1.1.1.1.1;
    }

make_same : (n m : Numbers) (p : Known n) (q : Known m) → n ≡ m → make n p ≡ make m q
make_same n m p q e = subst (λ (x : Numbers). (k : Known x) → make n p ≡ make x k) e (λ k. ap (make n) (known_once n p k)) q

known : (w : Within) → Known w.numbers
known w = (w.fit, (w.lengths, (w.moduli, (w.split, (w.secrets, (w.switching, w.last))))))

pub within_same : (w v : Within) → w.numbers ≡ v.numbers → w ≡ v
unfolding make known
within_same w v e = make_same w.numbers v.numbers (known w) (known v) e

-- a sweep states one noise for them
pub stated_for : (noise : Within → ℕ) (w : Within) → StatedFor noise w.numbers (noise w)
stated_for noise w v e = ap noise (within_same v w e)
