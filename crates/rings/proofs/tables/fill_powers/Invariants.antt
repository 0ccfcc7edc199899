use Rattle.std.proofs.Common.{◌≡◌, ℕ, ◌%◌, ◌^◌, ◌<◌, get_or}
use Rattle.rings.proofs.tables.fill_powers.Given as goal

abbrev pub invariant-loop-place : goal.invariant-loop-place
invariant-loop-place l = record {
  power : l.power ≡ l.base ^ l.place-index % l.modulus;
  written : (k : ℕ) → k < l.place-index → get_or l.out k 0 ≡ l.base ^ k % l.modulus;
}
