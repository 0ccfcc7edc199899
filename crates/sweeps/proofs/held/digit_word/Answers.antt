use Rattle.std.proofs.Common.{◌≡◌, ℕ, ◌+◌, ◌-◌, ◌*◌, ◌/◌, ◌%◌, ◌^◌, ◌<◌, ◌≤◌, ℤ, sym, ap, ◌∙◌, arith}
use lib.Bits.{bit_and}
use Rattle.std.proofs.lemmas.Nat.{and_mask, one_shl}
use Rattle.algebra.specs.Words.{word_of}
use Rattle.sweeps.proofs.Keeping.{digit_value, digit_close, word_less, word_more}
use Rattle.sweeps.proofs.held.digit_word.Goals as goal

-- the low bits
low_is : (x h w : ℕ) → w ≤ 16 → h ≡ 2 ^ w / 2 → bit_and (x + h) ((1 * 2 ^ w) % 4294967296 - 1) ≡ (x + 2 ^ w / 2) % 2 ^ w
low_is x h w few e =
    let o = one_shl w 32 (omega arith) in
    ap (λ (n : ℕ). bit_and (x + h) (n - 1)) o ∙ and_mask (x + h) w ∙ ap (λ (n : ℕ). (x + n) % 2 ^ w) e

pub overflow_sub-result : goal.overflow_sub-result
overflow_sub-result c =
    let x = c.args.x in
    let w = c.args.width in
    let l = low_is x c.half_of-half.result w c.requires.width.1 c.half_of-half.ensures.value in
    let d = digit_close x w c.args.modulus.value c.requires.width.1 c.requires.width.0 c.requires.held in
    omega (arith, l, d.0, c.half_of-half.ensures.value)

pub returns-then-low-half : goal.returns-then-low-half
returns-then-low-half c =
    let x = c.args.x in
    let w = c.args.width in
    let Q = c.args.modulus.value in
    let h = c.half_of-half.ensures.value in
    let l = low_is x c.half_of-half.result w c.requires.width.1 h in
    let d = digit_close x w Q c.requires.width.1 c.requires.width.0 c.requires.held in
    let t : (x + 2 ^ w / 2) % 2 ^ w < 2 ^ w / 2 = omega (arith, l, h, c.if-low-half.true) in
    rw (l, h) (word_less Q ((x + 2 ^ w / 2) % 2 ^ w) (2 ^ w / 2) t (omega (arith, d.0))
    ∙ ap (λ (z : ℤ). word_of Q z) (sym (digit_value x w Q c.requires.width.1 c.requires.width.0 c.requires.held)))

pub returns-else-low-half : goal.returns-else-low-half
returns-else-low-half c =
    let x = c.args.x in
    let w = c.args.width in
    let Q = c.args.modulus.value in
    let h = c.half_of-half.ensures.value in
    let l = low_is x c.half_of-half.result w c.requires.width.1 h in
    let d = digit_close x w Q c.requires.width.1 c.requires.width.0 c.requires.held in
    let t : 2 ^ w / 2 ≤ (x + 2 ^ w / 2) % 2 ^ w = omega (arith, l, h, c.if-low-half.false) in
    rw (l, h) (word_more Q ((x + 2 ^ w / 2) % 2 ^ w) (2 ^ w / 2) t (omega (arith, d.1, c.args.modulus.low))
    ∙ ap (λ (z : ℤ). word_of Q z) (sym (digit_value x w Q c.requires.width.1 c.requires.width.0 c.requires.held)))
