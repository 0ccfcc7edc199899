-- The laws of made keys and of held bits, collected.
use Rattle.algebra.specs.SecretLaws.{SecretLaws}
use Rattle.algebra.proofs.Making.{made_start_lem, made_selector}
use Rattle.algebra.proofs.Opening.{sealed, invert_holds, opens_zero, opens_one, holds_one}

pub secret_laws : SecretLaws
secret_laws = record {
  start_fits = made_start_lem;
  selector_fits = made_selector;
  seals = sealed;
  inverts = invert_holds;
  opens_zero = opens_zero;
  opens_one = opens_one;
  one_bit = holds_one;
}
