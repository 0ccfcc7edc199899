-- The stages of a gate, each as words.
use Rattle.std.specs.Prelude.{ℕ, suc, ◌+◌, ◌*◌, ◌^◌, ◌<◌, List, length, take, ℤ, pos, ◌+ℤ◌, ◌*ℤ◌, slice_index, slice_index_or}
use Rattle.algebra.specs.Ints.{Cong, sum_z}
use Rattle.algebra.specs.Gates.{beginning, combine, invert, extract, narrow, switch}
use Rattle.words.specs.Digits.{split_of}
use Rattle.words.specs.declared.gadget.Gadget.{Gadget}
use Rattle.kernels.specs.Polynomials.{reduced}
use Rattle.set.specs.declared.numbers.Numbers.{Numbers}
use Rattle.sweeps.specs.External.{taken_words}
use Rattle.sweeps.specs.Meaning.{turns}
use Rattle.gate.specs.declared.letter.Letter.{Letter}
use Rattle.gate.specs.Letters.{offset_of, times_of}

-- new words are the old ones and what is told, modulo 2^32
abbrev pub Added : List ℕ → List ℕ → (ℕ → ℤ) → Type 0
Added old new more = (t : ℕ) → t < length old → Cong (2 ^ 32) (pos (slice_index new t)) (pos (slice_index old t) +ℤ more t)

-- word t of row (j, i): rows of w words by rising j, and for each j by rising i, of which there are k
abbrev pub row_at : ℕ → ℕ → List ℕ → ℕ → ℕ → ℕ → ℤ
row_at k w rows j i t = pos (slice_index rows ((j * k + i) * w + t))

-- digits times the rows that stand one after the other, at place t
abbrev pub rows_of : List ℤ → ℕ → ℕ → List ℕ → ℕ → ℤ
rows_of digits k w rows t = sum_z k (λ i. slice_index_or digits i (pos 0) *ℤ pos (slice_index rows (i * w + t)))

-- the digits of a word
abbrev pub split_by : Gadget → ℕ → List ℤ
split_by g x = split_of g.modulus.value (2 ^ g.shift) (2 ^ g.width) g.digits x

-- the digits of word j times its rows
abbrev pub all_rows_of : Gadget → List ℕ → ℕ → List ℕ → ℕ → ℕ → ℤ
all_rows_of g xs w rows j t =
    sum_z g.digits (λ i. slice_index_or (split_by g (slice_index xs j)) i (pos 0) *ℤ pos (slice_index rows (j * (g.digits * w) + (i * w + t))))

-- the switch of N + 1 words, which count as their remainders
unfoldable pub switch_words : ℕ → ℕ → ℕ → ℕ → ℕ → List ℕ → List ℕ → List ℕ
switch_words N n M C k rows xs = switch N n M C k (row_at k (n + 1) rows) (reduced (suc N) M xs)

-- the first accumulator: Y^b times the test polynomial, taken by the start key
abbrev pub started_of : Numbers → List (List ℕ) → List ℕ → List ℕ
started_of n key zs = taken_words n key (beginning n.degree n.modulus (turns n (slice_index zs n.dimension)))

-- the accumulator after a sweep by the exponents a, for the definition of the sweep
abbrev pub swept_of : (Numbers → List ℕ → List (List ℕ) → List ℕ → List ℕ) → Numbers → List (List ℕ) → List ℕ → List ℕ → List ℕ
swept_of defined n keys zs acc = defined n (take n.dimension zs) keys (reduced n.degree n.modulus acc)

-- the other stages, of words that count as their remainders
abbrev pub combined_of : Numbers → Letter → List ℕ → List ℕ → List ℕ
combined_of n l xs ys = combine n.dimension n.small (offset_of l) (times_of l) xs ys

abbrev pub inverted_of : Numbers → List ℕ → List ℕ
inverted_of n xs = invert n.dimension n.small xs

abbrev pub extracted_of : Numbers → List ℕ → List ℕ
extracted_of n acc = extract n.degree n.modulus acc

abbrev pub narrowed_of : Numbers → List ℕ → List ℕ
narrowed_of n xs = narrow (suc n.degree) n.modulus n.switch xs

abbrev pub switched_of : Numbers → List ℕ → List ℕ → List ℕ
switched_of n rows xs = switch_words n.degree n.dimension n.switch n.radix n.places rows xs

abbrev pub finished_of : Numbers → List ℕ → List ℕ
finished_of n xs = narrow (suc n.dimension) n.switch n.small xs
