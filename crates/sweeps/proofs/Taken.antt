-- What an accumulator taken by a key means.
use Rattle.std.proofs.Common.{ℕ, ◌/◌, List, arith}
use Rattle.algebra.proofs.Keys.{split_words, start_near, selector_near}
use Rattle.algebra.specs.Keys.{Splits, split}
use Rattle.algebra.specs.Words.{coeffs}
use Rattle.kernels.specs.Polynomials.{IsPoly}
use Rattle.set.specs.declared.checked.Set.{Set}
use Rattle.sweeps.specs.Fit.{entries, key_at}
use Rattle.sweeps.specs.External.{taken_by, taken_words}
use Rattle.sweeps.specs.Layout.{numbers_of}
use Rattle.sweeps.specs.TakeLaws.{TakeLaws}
use Rattle.sweeps.proofs.Made.{words_near, words_poly}
use Rattle.sweeps.specs.Meanings.{set_covers, secret_light, some_modulus}

-- the digits of an accumulator split it
splits : (s : Set) (acc : List ℕ) → IsPoly (numbers_of s).degree (numbers_of s).modulus acc
    → Splits (numbers_of s).modulus (numbers_of s).degree (numbers_of s).dropped (numbers_of s).base (numbers_of s).digits
    ((numbers_of s).base / 2) ((numbers_of s).dropped / 2) (coeffs acc)
    (split (numbers_of s).modulus (numbers_of s).dropped (numbers_of s).base (numbers_of s).digits acc)
splits s acc poly =
    let n = numbers_of s in
    split_words n.modulus n.degree n.dropped n.base n.digits acc (set_covers s) (λ k l. poly.1 k (omega (arith, poly.0)))

pub take_laws : TakeLaws
unfolding taken_words
take_laws =
    record {
      poly = λ s key acc. words_poly (numbers_of s).degree (numbers_of s).modulus (taken_by (numbers_of s) key 0 acc) (some_modulus s.within);
      started = λ s f key acc poly fits.
          let n = numbers_of s in
          words_near n.modulus n.degree _ (entries f) (taken_by n key 0 acc) (coeffs acc) (some_modulus s.within)
          (start_near n.modulus n.degree n.dropped n.base n.digits n.noise (n.base / 2) (n.dropped / 2) (entries f) (coeffs acc)
          (split n.modulus n.dropped n.base n.digits acc) (key_at n.digits key 0) (splits s acc poly) fits);
      selected = λ s f m w key acc poly ring light fits.
          let n = numbers_of s in
          words_near n.modulus n.degree _ (entries f) (taken_by n key 0 acc) _ (some_modulus s.within)
          (selector_near n.modulus n.degree n.dropped n.base n.digits n.noise (n.base / 2) (n.dropped / 2) (entries f) (coeffs acc)
          (split n.modulus n.dropped n.base n.digits acc) (key_at n.digits key 0) (splits s acc poly)
          m w n.weight light (secret_light n f ring) fits);
    }
