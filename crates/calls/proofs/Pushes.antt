-- A run, call by call: what is there so far, and what is still to come.
use Rattle.std.proofs.Common.{◌≡◌, ℕ, ◌+◌, ◌-◌, ◌*◌, ◌<◌, ◌≤◌, List, [], ◌∷◌, ◌++◌, map, length, get_or, take, drop, set, sym, refl, ap, ◌∙◌, append_assoc, mul-le-mul_right, add-mul, one-mul, zero-mul, arith}
use borrow.Rule.Slice.PartMut.{put_mid}
use Rattle.std.proofs.lemmas.List.{drop_more, drop_all, take_more_set, take_all, append-nil, get_or-map, length-map, length-take, length-drop}
use Rattle.std.proofs.lemmas.Slice.{take-put_mid}
use Rattle.set.specs.declared.checked.Set.{Set}
use Rattle.set.specs.declared.numbers.Numbers.{Numbers}
use Rattle.registers.specs.Registers.{numbers_of, wide}
use Rattle.registers.specs.Marks.{State}
use Rattle.registers.specs.Steps.{Gates}
use Rattle.calls.specs.declared.answer.Answer.{Answer}
use Rattle.calls.specs.declared.call.Call.{Call}
use Rattle.calls.specs.Calls.{Asked, asked, answer, next, slot}
use Rattle.calls.specs.Runs.{answers, slots, left}

module _ (gates : Gates) (m : Numbers) (count : ℕ) where
  answers_next : (s : State) (c : Asked) (cs : List Asked) → answers gates m count s (c ∷ cs) ≡ answer gates m count s c ∷ answers gates m count (next gates m count s c) cs
  unfolding answers
  answers_next s c cs = refl

  slots_next : (s : State) (c : Asked) (cs : List Asked) → slots gates m count s (c ∷ cs) ≡ slot gates m count s c ++ slots gates m count (next gates m count s c) cs
  unfolding slots
  slots_next s c cs = refl

  left_next : (s : State) (c : Asked) (cs : List Asked) → left gates m count s (c ∷ cs) ≡ left gates m count (next gates m count s c) cs
  unfolding left
  left_next s c cs = refl

  none_answers : (s : State) → answers gates m count s [] ≡ []
  unfolding answers
  none_answers s = refl

  none_slots : (s : State) → slots gates m count s [] ≡ []
  unfolding slots
  none_slots s = refl

  none_left : (s : State) → left gates m count s [] ≡ s
  unfolding left
  none_left s = refl

  module _ (cs : List Asked) (begun : State) where
    -- i calls ran, and led to the state s
    pub record Goes (i : ℕ) (s : State) (got : List Answer) (reads : List ℕ) : Type 0 where
      pub answered : answers gates m count begun cs ≡ take i got ++ answers gates m count s (drop i cs)
      pub read : slots gates m count begun cs ≡ take (i * (wide m + 1)) reads ++ slots gates m count s (drop i cs)
      pub stands : left gates m count begun cs ≡ left gates m count s (drop i cs)

    pub goes_none : (got : List Answer) (reads : List ℕ) → Goes 0 begun got reads
    goes_none got reads = record { answered = refl; read = ap (λ (k : ℕ). take k reads ++ slots gates m count begun cs) (sym (zero-mul (wide m + 1))); stands = refl }

    pub goes-more : (i size at : ℕ) (s t : State) (got : List Answer) (reads now : List ℕ) (a : Answer) (c : Asked)
        → i < length cs → get_or cs i c ≡ c → i < length got → size ≡ wide m + 1 → at ≡ i * size → at + size ≤ length reads
        → a ≡ answer gates m count s c → t ≡ next gates m count s c → now ≡ slot gates m count s c → length now ≡ size
        → Goes i s got reads → (k : ℕ) → k ≡ size → Goes (i + 1) t (set got i a) (put_mid at k reads now)
    goes-more i size at s t got reads now a c l is h sz is_at room ea et es long g k ek =
        let w : ℕ = wide m + 1 in
        let d : drop i cs ≡ c ∷ drop (i + 1) cs = drop_more cs i c l ∙ ap (λ (v : Asked). v ∷ drop (i + 1) cs) is in
        let here : (i + 1) * (wide m + 1) ≡ at + length now =
        add-mul i 1 w ∙ ap (λ (v : ℕ). i * (wide m + 1) + v) (one-mul w) ∙ ap (λ (v : ℕ). i * v + v) (sym sz) ∙ ap (λ (v : ℕ). v + size) (sym is_at) ∙ ap (λ (v : ℕ). at + v) (sym long) in
        let front : i * (wide m + 1) ≡ at = ap (λ (v : ℕ). i * v) (sym sz) ∙ sym is_at in
        record {
          answered =
              g.answered
              ∙ ap (λ (v : List Asked). take i got ++ answers gates m count s v) d
              ∙ ap (λ (v : List Answer). take i got ++ v) (answers_next s c (drop (i + 1) cs))
              ∙ ap (λ (v : Answer). take i got ++ (v ∷ answers gates m count (next gates m count s c) (drop (i + 1) cs))) (sym ea)
              ∙ ap (λ (v : State). take i got ++ (a ∷ answers gates m count v (drop (i + 1) cs))) (sym et)
              ∙ sym (append_assoc (take i got) (a ∷ []) (answers gates m count t (drop (i + 1) cs)))
              ∙ ap (λ (v : List Answer). v ++ answers gates m count t (drop (i + 1) cs)) (sym (take_more_set got i a h));
          read =
              g.read
              ∙ ap (λ (v : List Asked). take (i * (wide m + 1)) reads ++ slots gates m count s v) d
              ∙ ap (λ (v : List ℕ). take (i * (wide m + 1)) reads ++ v) (slots_next s c (drop (i + 1) cs))
              ∙ ap (λ (v : List ℕ). take (i * (wide m + 1)) reads ++ (v ++ slots gates m count (next gates m count s c) (drop (i + 1) cs))) (sym es)
              ∙ ap (λ (v : State). take (i * (wide m + 1)) reads ++ (now ++ slots gates m count v (drop (i + 1) cs))) (sym et)
              ∙ ap (λ (v : ℕ). take v reads ++ (now ++ slots gates m count t (drop (i + 1) cs))) front
              ∙ sym (append_assoc (take at reads) now (slots gates m count t (drop (i + 1) cs)))
              ∙ ap (λ (v : List ℕ). v ++ slots gates m count t (drop (i + 1) cs)) (sym (take-put_mid at k reads now (at + length now) refl (omega arith)))
              ∙ ap (λ (v : ℕ). take v (put_mid at k reads now) ++ slots gates m count t (drop (i + 1) cs)) (sym here);
          stands =
              g.stands ∙ ap (left gates m count s) d ∙ left_next s c (drop (i + 1) cs) ∙ ap (λ (v : State). left gates m count v (drop (i + 1) cs)) (sym et);
        }

    pub goes-all : (i : ℕ) (s : State) (got : List Answer) (reads : List ℕ) → i ≡ length cs → length got ≡ length cs → length reads ≡ length cs * (wide m + 1) → Goes i s got reads
        → (got ≡ answers gates m count begun cs) × (reads ≡ slots gates m count begun cs) × (s ≡ left gates m count begun cs)
    goes-all i s got reads e long many g =
        let d : drop i cs ≡ [] = drop_all i cs (omega arith) in
        let all : length reads ≤ i * (wide m + 1) = (let h : length reads ≡ i * (wide m + 1) = many ∙ ap (λ (v : ℕ). v * (wide m + 1)) (sym e) in omega arith) in (
          sym (g.answered
              ∙ ap (λ (v : List Asked). take i got ++ answers gates m count s v) d
              ∙ ap (λ (v : List Answer). take i got ++ v) (none_answers s)
              ∙ append-nil (take i got) ∙ take_all i got (omega arith)),
          sym (g.read
              ∙ ap (λ (v : List Asked). take (i * (wide m + 1)) reads ++ slots gates m count s v) d
              ∙ ap (λ (v : List ℕ). take (i * (wide m + 1)) reads ++ v) (none_slots s)
              ∙ append-nil (take (i * (wide m + 1)) reads) ∙ take_all (i * (wide m + 1)) reads all),
          sym (g.stands ∙ ap (left gates m count s) d ∙ none_left s),
        )

-- one call more of a list of calls
pub serve_more : (gates : Gates) (m : Numbers) (count : ℕ) (calls : List Call) (begun : State) (i size at k : ℕ) (s t : State) (got : List Answer) (reads now : List ℕ) (a : Answer) (d : Call)
    → i < length calls → length got ≡ length calls → size ≡ wide m + 1 → at ≡ i * size → at + size ≤ length reads
    → a ≡ answer gates m count s (asked (get_or calls i d)) → t ≡ next gates m count s (asked (get_or calls i d)) → now ≡ slot gates m count s (asked (get_or calls i d)) → length now ≡ size
    → k ≡ size → Goes gates m count (map asked calls) begun i s got reads → Goes gates m count (map asked calls) begun (i + 1) t (set got i a) (put_mid at k reads now)
serve_more gates m count calls begun i size at k s t got reads now a d l long sz is_at room ea et es many ek g =
    let c : Asked = asked (get_or calls i d) in
    let h : i < length (map asked calls) = (let e = length-map calls asked in omega arith) in
    goes-more gates m count (map asked calls) begun i size at s t got reads now a c h (get_or-map asked calls i d c l) (omega arith) sz is_at room ea et es many g k ek

-- a slot lies within the memory for read words
pub slot_room : (i calls size wide1 reads : ℕ) → size ≡ wide1 → reads ≡ calls * wide1 → i < calls → i * size + size ≤ reads
slot_room i calls size wide1 reads e l h =
    let a : (i + 1) * size ≤ calls * size = mul-le-mul_right size (omega arith) in
    let b : reads ≡ calls * size = l ∙ ap (λ (k : ℕ). calls * k) (sym e) in
    omega (arith, add-mul i 1 size, one-mul size)

-- n + 2, of the set that the engine keeps
pub size_is : (set same : Set) (w : ℕ) → same ≡ set → w ≡ wide (numbers_of same) → w + 1 ≡ wide (numbers_of set) + 1
size_is set same w e h = ap (λ (k : ℕ). k + 1) (h ∙ ap (λ (v : Set). wide (numbers_of v)) e)

-- a part of a list
pub part_long : (at size : ℕ) (xs : List ℕ) → at + size ≤ length xs → length (take (at + size - at) (drop at xs)) ≡ size
part_long at size xs h = simp (length-take, length-drop) (omega arith)
