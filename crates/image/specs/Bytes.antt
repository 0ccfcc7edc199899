-- Bytes as numbers: words of four bytes, and what is asked of them.
use Rattle.std.specs.Prelude.{ℕ, ◌+◌, ◌*◌, ◌/◌, Bool, true, cond, ◌&&◌, List, [], ◌∷◌, map, length, Some, None, Option, ◌==◌, nat_lt, slice_index}
use Rattle.std.specs.List.{range_with_len}
use Rattle.set.specs.declared.numbers.Numbers.{Numbers}

-- the word of four bytes, highest first
abbrev pub big_endian : ℕ → ℕ → ℕ → ℕ → ℕ
big_endian a b c d = (a * 256 + b) * 65536 + c * 256 + d

-- the word of the four bytes from `at` on; a byte past the end counts as 0
unfoldable pub word_at : List ℕ → ℕ → ℕ
word_at bytes at = big_endian (slice_index bytes at) (slice_index bytes (at + 1)) (slice_index bytes (at + 2)) (slice_index bytes (at + 3))

-- the first n words of a part, with zeros where it has fewer
unfoldable pub first_words : ℕ → List ℕ → List ℕ
first_words n bytes = map (λ k. word_at bytes (4 * k)) (range_with_len 0 n)

-- all its words
abbrev pub words_of : List ℕ → List ℕ
words_of bytes = first_words (length bytes / 4) bytes

-- the sixteen numbers of a set part, in field order
abbrev pub numbers_of : List ℕ → Numbers
numbers_of bytes =
    record {
      degree = word_at bytes 0;
      dimension = word_at bytes 4;
      small = word_at bytes 8;
      modulus = word_at bytes 12;
      root = word_at bytes 16;
      dropped = word_at bytes 20;
      base = word_at bytes 24;
      digits = word_at bytes 28;
      noise = word_at bytes 32;
      weight = word_at bytes 36;
      ones = word_at bytes 40;
      switch = word_at bytes 44;
      radix = word_at bytes 48;
      places = word_at bytes 52;
      jitter = word_at bytes 56;
      bound = word_at bytes 60;
    }

-- the place of the first word that is not below m, where these words start at place i
abbrev pub first_high : ℕ → ℕ → List ℕ → Option ℕ
first_high m i [] = None
first_high m i (w ∷ ws) = cond (nat_lt w m) (first_high m (i + 1) ws) (Some i)

-- where that word starts, in bytes
abbrev pub four_times : Option ℕ → Option ℕ
four_times None = None
four_times (Some i) = Some (4 * i)

-- no byte but 0
abbrev pub all_zero : List ℕ → Bool
all_zero [] = true
all_zero (b ∷ bs) = b == 0 && all_zero bs
