-- The whole law of runs, from the definitions.
use Rattle.std.proofs.Common.{◌≡◌, ℕ, ◌*◌, List, map, length, ℤ, sym, ap, ◌∙◌, subst}
use Rattle.set.specs.declared.numbers.Numbers.{Numbers}
use Rattle.set.specs.declared.within.Within.{Within}
use Rattle.set.specs.declared.checked.Set.{Set}
use Rattle.sweeps.specs.Forms.{ArePolys}
use Rattle.sweeps.specs.Meaning.{Means}
use Rattle.gate.specs.declared.letter.Letter.{Letter}
use Rattle.gate.proofs.Holding.{gate_long}
use Rattle.registers.specs.Registers.{wide, numbers_of}
use Rattle.registers.specs.Steps.{Gates, fresh}
use Rattle.calls.specs.Calls.{Asked}
use Rattle.calls.specs.Runs.{Outcome, answers, run_of}
use Rattle.calls.specs.Promise.{shape, gates_of, FollowsBits, Promise}
use Rattle.calls.specs.Gated.{LongGate}
use Rattle.calls.proofs.Follow.{follows, gates_right}
use Rattle.calls.proofs.Blind.{same_shapes}
use Rattle.calls.proofs.Goes.{each_call}

-- words below q decide no answer where all gates make n + 1 words
pub words_decide_nothing_calls : (gates : Gates) (m : Numbers) (count : ℕ) → ((l : Letter) (xs ys : List ℕ) → length (gates l xs ys) ≡ wide m)
    → (R : ℕ) (cs ds : List Asked) → map (shape m.small) cs ≡ map (shape m.small) ds
    → answers gates m count (fresh m R) cs ≡ answers gates m count (fresh m R) ds
words_decide_nothing_calls gates m count long R cs ds e =
    same_shapes gates m count R cs ds (each_call (LongGate gates m) (λ l xs ys a b. long l xs ys) cs) e

pub promised : (defined : Numbers → List ℕ → List (List ℕ) → List ℕ → List ℕ) (noise count : Within → ℕ) (message : Within → List ℤ → ℕ → List ℕ)
    → Means defined noise count message → (set : Set) (start keys : List (List ℕ)) (rows : List ℕ)
    → length keys ≡ count set.within * set.within.numbers.digits → ArePolys set.within.numbers.degree set.within.numbers.modulus keys
    → (R : ℕ) (calls : List Asked) (o : Outcome) → o ≡ run_of (gates_of defined (numbers_of set) start keys rows) (numbers_of set) (count set.within) R calls
    → Promise defined noise count message set start keys rows R calls o
promised defined noise count message means set start keys rows long polys R calls o e =
    let m = numbers_of set in
    let gates = gates_of defined m start keys rows in
    record {
      ran = e;
      registers_follow_bits = λ f s stated fit quiet.
          subst (FollowsBits (numbers_of set) R s calls) (sym e)
          (follows (gates_of defined (numbers_of set) start keys rows) set.within (count set.within) R s
          (gates_right defined noise count message means set start keys rows long polys f s stated fit) fit.sweeps.small calls quiet);
      words_decide_nothing = λ others h.
          sym (same_shapes (gates_of defined (numbers_of set) start keys rows) (numbers_of set) (count set.within) R calls others
          (each_call (LongGate (gates_of defined (numbers_of set) start keys rows) (numbers_of set)) (λ l xs ys a b. gate_long defined (numbers_of set) l start keys rows xs ys) calls) h)
          ∙ ap (λ (v : Outcome). v.answers) (sym e);
    }
