use Rattle.transform.proofs.OddPlaces.{each_odd_once}
use Rattle.transform.proofs.laws.places_are_odd_numbers.Goals as goal

pub returns : goal.returns
returns c = each_odd_once
