-- The laws of digits and keys, collected.
use Rattle.algebra.specs.GadgetLaws.{GadgetLaws}
use Rattle.algebra.proofs.Digits.{step_is, step_range, word_digits, word_near, centred_cong, centred_small}
use Rattle.algebra.proofs.Keys.{split_words, start_near, bit_near, monomial_near}

pub gadget_laws : GadgetLaws
gadget_laws = record {
  exact = step_is;
  range = step_range;
  small = word_digits;
  together = word_near;
  represents = λ R x l. (centred_cong R x l, centred_small R x l);
  splits = split_words;
  started = start_near;
  selected = bit_near;
  turned = monomial_near;
}
