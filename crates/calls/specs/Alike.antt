-- Words below q decide no answer, call by call.
use Rattle.std.specs.Prelude.{◌≡◌, ℕ, List, map, length}
use Rattle.set.specs.declared.numbers.Numbers.{Numbers}
use Rattle.registers.specs.declared.op.Op.{Op}
use Rattle.registers.specs.Marks.{State}
use Rattle.registers.specs.Steps.{Gates, refuse_place, next_place, refuse_read, refuse_op}
use Rattle.calls.specs.Promise.{blank}
use Rattle.calls.specs.Gated.{OnGate, LongGate}
use Rattle.calls.specs.Followed.{next_op}

-- two states alike but for what their words are
pub record Alike (s t : State) : Type 0 where
  pub counts : s.count ≡ t.count
  pub marked : s.marks ≡ t.marks
  pub lengths : length s.words ≡ length t.words

-- calls of one shape get the same answer in states that are alike, and leave states that are alike
pub record WordsDecideNothing : Type 0 where
  pub places : (m : Numbers) (s t : State) → Alike s t → (z : ℕ) (ws vs : List ℕ) → map (blank m.small) ws ≡ map (blank m.small) vs
      → refuse_place m s z ws ≡ refuse_place m t z vs
  pub placed : (m : Numbers) (s t : State) → Alike s t → (z : ℕ) (ws vs : List ℕ) → map (blank m.small) ws ≡ map (blank m.small) vs
      → Alike (next_place m s z ws) (next_place m t z vs)
  pub reads : (m : Numbers) (s t : State) → Alike s t → (x have : ℕ) → refuse_read m s x have ≡ refuse_read m t x have
  pub operates : (m : Numbers) (s t : State) → Alike s t → (op : Op) → refuse_op m s op ≡ refuse_op m t op
  pub operated : (gates : Gates) (m : Numbers) (s t : State) → Alike s t → (op : Op) → OnGate (LongGate gates m) op
      → Alike (next_op gates m s op) (next_op gates m t op)
