-- Keys made from an inverse of the ring secret fit.
use Rattle.std.proofs.Common.{◌≡◌, ℕ, ◌+◌, ◌*◌, ◌/◌, ◌%◌, ◌<◌, List, [], map, get_or, ℤ, sym, ap, ◌∙◌, subst, arith}
use Rattle.std.specs.List.{range_with_len}
use Rattle.std.proofs.lemmas.Nat.{div-mul-add, mod-mul-add}
use Rattle.std.proofs.lemmas.List.FromFn.{get_or-map-range_with_len, length-map-range_with_len}
use Rattle.algebra.specs.Keys.{gadget}
use Rattle.algebra.specs.Near.{Nearby}
use Rattle.algebra.specs.Polys.{Poly, Alike, Within, one, scale, mul}
use Rattle.algebra.specs.Words.{coeffs, words}
use Rattle.algebra.proofs.Cong.{cong_refl}
use Rattle.algebra.proofs.Making.{made_start_lem, made_selector}
use Rattle.algebra.proofs.Near.{cong_near}
use Rattle.algebra.proofs.Norms.{mul_alike}
use Rattle.algebra.proofs.Words.{words_alike, words_long, words_below}
use Rattle.kernels.specs.Polynomials.{IsPoly}
use Rattle.set.specs.declared.numbers.Numbers.{Numbers}
use Rattle.set.specs.declared.within.Within as set
use Rattle.sweeps.specs.Fit.{entries, FitsStart, FitSelectors}
use Rattle.sweeps.specs.Forms.{ArePolys}
use Rattle.sweeps.specs.Making.{start_part, selector_part, made_start, made_selectors, KeysFit}
use Rattle.sweeps.proofs.Rows.{row_ends}

-- words in place of a polynomial keep the noise
pub words_near : (Q N E : ℕ) (f p q : Poly) → 0 < Q → Nearby Q N E (mul N f p) q → Nearby Q N E (mul N f (coeffs (words N Q p))) q
words_near Q N E f p q some h k l =
    cong_near Q (mul_alike Q N f f (coeffs (words N Q p)) p (λ k l. cong_refl Q (f k)) (words_alike N Q p some) k l) (h k l)

module _ (n : Numbers) (f : List ℤ) (inverse : List ℕ) (noise : ℕ → List ℤ) (some : 0 < n.modulus)
    (ones : Alike n.modulus n.degree (mul n.degree (entries f) (coeffs inverse)) one)
    (small : (t : ℕ) → Within n.degree n.noise (entries (noise t))) where
  start_fits : FitsStart n f (made_start n inverse noise)
  unfolding made_start start_part
  start_fits i l =
      let at = get_or-map-range_with_len (λ i. start_part n inverse (noise i) i) 0 n.digits i i [] l (omega arith) in
      subst (λ (w : List ℕ). Nearby n.modulus n.degree n.noise (mul n.degree (entries f) (coeffs w)) (scale (gadget n.dropped n.base i) one))
      (sym at ∙ ap (λ (j : ℕ). get_or (map (λ i. start_part n inverse (noise i) i) (range_with_len 0 n.digits)) j []) {x = i} {y = 0 * n.digits + i} (omega arith))
      (words_near n.modulus n.degree n.noise (entries f) _ _ some
      (made_start_lem n.modulus n.degree n.noise (entries f) (coeffs inverse) (entries (noise i)) ones (small i) (gadget n.dropped n.base i) one))

  selectors_fit : (count : ℕ) (message : ℕ → List ℕ) → FitSelectors n count message f (made_selectors n count inverse noise message)
  unfolding made_selectors selector_part
  selectors_fit count message j b i l =
      let d = n.digits in
      let t = j * d + i in
      let part : ℕ → List ℕ = (λ t. selector_part n inverse (noise t) (message (t / d)) (t % d)) in
      let at : get_or (map part (range_with_len 0 (count * d))) t [] ≡ part t =
      get_or-map-range_with_len part 0 (count * d) t t [] (omega (arith, row_ends j d count b)) (omega arith) in
      let here : part t ≡ selector_part n inverse (noise t) (message j) i =
      ap (λ (x : ℕ). selector_part n inverse (noise t) (message x) (t % d)) (div-mul-add j d i l)
      ∙ ap (λ (x : ℕ). selector_part n inverse (noise t) (message j) x) (mod-mul-add j d i l) in
      subst (λ (w : List ℕ). Nearby n.modulus n.degree n.noise (mul n.degree (entries f) (coeffs w))
      (scale (gadget n.dropped n.base i) (mul n.degree (coeffs (message j)) (entries f))))
      (sym (at ∙ here))
      (words_near n.modulus n.degree n.noise (entries f) _ _ some
      (made_selector n.modulus n.degree n.noise (entries f) (coeffs inverse) (entries (noise t)) ones (small t)
      (gadget n.dropped n.base i) (coeffs (message j))))

-- they are polynomials
pub words_poly : (N Q : ℕ) (p : Poly) → 0 < Q → IsPoly N Q (words N Q p)
words_poly N Q p some = (words_long N Q p, λ k l. words_below N Q p some k (omega (arith, words_long N Q p)))

all_polys : (N Q count : ℕ) (part : ℕ → List ℕ) → ((i : ℕ) → IsPoly N Q (part i)) → ArePolys N Q (map part (range_with_len 0 count))
all_polys N Q count part each i l =
    subst (λ (w : List ℕ). IsPoly N Q w)
    (sym (get_or-map-range_with_len part 0 count i i [] (omega (arith, length-map-range_with_len part 0 count)) (omega arith))) (each i)

start_polys : (n : Numbers) (inverse : List ℕ) (noise : ℕ → List ℤ) → 0 < n.modulus → ArePolys n.degree n.modulus (made_start n inverse noise)
unfolding made_start start_part
start_polys n inverse noise some =
    all_polys n.degree n.modulus n.digits (λ i. start_part n inverse (noise i) i) (λ i. words_poly n.degree n.modulus _ some)

selector_polys : (n : Numbers) (count : ℕ) (inverse : List ℕ) (noise : ℕ → List ℤ) (message : ℕ → List ℕ) → 0 < n.modulus
    → ArePolys n.degree n.modulus (made_selectors n count inverse noise message)
unfolding made_selectors selector_part
selector_polys n count inverse noise message some =
    all_polys n.degree n.modulus (count * n.digits) (λ t. selector_part n inverse (noise t) (message (t / n.digits)) (t % n.digits))
    (λ i. words_poly n.degree n.modulus _ some)

some_modulus : (w : set.Within) → 0 < w.numbers.modulus
some_modulus w = omega (arith, w.moduli)

pub keys_fit : KeysFit
keys_fit =
    record {
      start = λ w f inverse noise ones small. start_fits w.numbers f inverse noise (some_modulus w) ones small;
      selectors = λ w f s inverse noise message count r q ones small.
          record { ring = r; small = q; selectors = selectors_fit w.numbers f inverse noise (some_modulus w) ones small (count w) (message w s) };
      polys = λ w inverse noise message count.
          (start_polys w.numbers inverse noise (some_modulus w), selector_polys w.numbers count inverse noise message (some_modulus w));
    }
