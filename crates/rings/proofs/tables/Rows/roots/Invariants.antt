use Rattle.std.proofs.Common.{◌≡◌, ℕ, ◌<◌, get_or}
use Rattle.rings.specs.Tables.{exponent}
use Rattle.rings.proofs.tables.Rows.roots.Given as goal

abbrev pub invariant-loop-i : goal.invariant-loop-i
invariant-loop-i l = (k : ℕ) → k < l.i → get_or l.place-items k 0 ≡ get_or l.powers (exponent l.self.log l.self.half k) 0
