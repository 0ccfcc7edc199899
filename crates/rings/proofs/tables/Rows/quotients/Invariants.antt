use Rattle.std.proofs.Common.{◌≡◌, ℕ, ◌*◌, ◌/◌, ◌^◌, ◌<◌, get_or}
use Rattle.rings.proofs.tables.Rows.quotients.Given as goal

abbrev pub invariant-loop-i : goal.invariant-loop-i
invariant-loop-i l = (k : ℕ) → k < l.i → get_or l.place-items k 0 ≡ get_or l.roots k 0 * 2 ^ 32 / l.modulus
