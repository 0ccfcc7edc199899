-- The laws of words, collected.
use Rattle.algebra.specs.WordLaws.{WordLaws}
use Rattle.algebra.proofs.Bridge.{word_below, word_cong, word_same, word_unique}
use Rattle.algebra.proofs.Words.{words_from, product_from, fused_from, product_alike, fused_alike}

pub word_laws : WordLaws
word_laws = record {
  below = word_below;
  stands = word_cong;
  same = word_same;
  one = word_unique;
  only_words = words_from;
  only_product = product_from;
  only_fused = fused_from;
  product_stands = product_alike;
  fused_stands = fused_alike;
}
