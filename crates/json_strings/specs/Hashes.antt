-- Hashes of what names mean.
use Rattle.std.specs.Prelude.{◌≡◌, ◌≢◌, ℕ, zero, suc, ◌+◌, ◌-◌, ◌*◌, ◌/◌, ◌%◌, ◌^◌, ◌<◌, ◌≤◌, cond, ltb, eqb, List, [], ◌∷◌, length, take, drop, get_or}
use Rattle.json_strings.specs.Letters.{word_at}
use Rattle.json_strings.specs.declared.hashes.Hashing.{Hashing}

-- A hash of scalar values: eight of ASCII at a time are a word, their number with the first as the highest digit of 256, any other one
-- is a word of its own, and words are mixed by a factor. No fact of a text rests on which hash or which factor it is; only steps speak of them.

-- a word behind others: the low half of their hash times the factor less the high half, since words that meet in the low half alone would meet
-- by each factor
unfoldable pub chained : (factor hash word : ℕ) → ℕ
chained factor hash word = (((hash * factor) % (2 ^ 64) + 2 ^ 64 - hash * factor / 2 ^ 64) % (2 ^ 64) + word) % (2 ^ 64)

unfoldable pub lengthened : ℕ → ℕ → ℕ
lengthened word c = ((word * 256) % (2 ^ 64) + c) % (2 ^ 64)

-- with room in its word
abbrev pub roomy : (factor : ℕ) → Hashing → Hashing
roomy factor s = cond (ltb s.count 8) s (record { hash = chained factor s.hash s.word; word = 0; count = 0 })

abbrev pub with_digit : Hashing → ℕ → Hashing
with_digit s c = record { hash = s.hash; word = lengthened s.word c; count = s.count + 1 }

-- with a word that no digits of ASCII are, behind the number of those before it
abbrev pub with_word : (factor : ℕ) → Hashing → ℕ → Hashing
with_word factor s c = record { hash = chained factor (chained factor (chained factor s.hash s.word) s.count) (2 ^ 63 + c); word = 0; count = 0 }

-- with one more scalar value
abbrev pub more : (factor : ℕ) → Hashing → ℕ → Hashing
more factor s c = cond (ltb c 128) (with_digit (roomy factor s) c) (with_word factor (roomy factor s) c)

abbrev pub finished : (factor : ℕ) → Hashing → ℕ
finished factor s = cond (eqb s.count 0) s.hash (chained factor s.hash s.word)

abbrev pub hash_from : (factor : ℕ) → Hashing → List ℕ → ℕ
hash_from factor s [] = finished factor s
hash_from factor s (c ∷ cs) = hash_from factor (more factor s c) cs

-- of whole words with this hash
abbrev pub after_words : ℕ → Hashing
after_words hash = record { hash = hash; word = 0; count = 0 }

abbrev pub hash_of : (factor : ℕ) → List ℕ → ℕ
hash_of factor cs = hash_from factor (after_words 0) cs

-- the number of these digits of 256 behind those of w
abbrev pub digits : ℕ → List ℕ → ℕ
digits w [] = w
digits w (b ∷ bs) = digits (w * 256 + b) bs

-- the four bytes from a place on, and those from another on, as one word
abbrev pub fours_at : List ℕ → (i j : ℕ) → ℕ
fours_at bs i j = word_at bs i * 2 ^ 32 + word_at bs j

unfoldable pub joined : ℕ → ℕ → ℕ
joined hash word = ((hash * 0x9E3779B97F4A7C15) % (2 ^ 64) + word) % (2 ^ 64)

-- a word, and behind it so many words of eight bytes from a place on
abbrev pub words_from : (count : ℕ) → List ℕ → (at word : ℕ) → ℕ
words_from zero bs at word = word
words_from (suc n) bs at word = words_from n bs (at + 8) (joined word (fours_at bs at (at + 4)))

-- the first eight bytes, the last eight and all between them, or the first four and the last four of fewer, or the second one of fewer
-- than four, as one word. No fact of a text rests on which word it is.
abbrev pub word_of_bytes : List ℕ → ℕ
word_of_bytes bs =
    cond (ltb (length bs) 4) (get_or bs 1 0)
    (cond (ltb (length bs) 8) (fours_at bs 0 (length bs - 4))
    (words_from ((length bs - 9) / 8) bs 8 (joined (fours_at bs 0 (length bs - 4)) (fours_at bs 4 (length bs - 8)))))

-- so many bytes from a place on stand for themselves, and this is their word
pub record IsPlainWord (text : List ℕ) (at len word : ℕ) : Type 0 where
  pub value : word ≡ digits 0 (take len (drop at text))
  pub fits : digits 0 (take len (drop at text)) < 2 ^ 64
  pub plain : (k : ℕ) → at ≤ k → k < at + len → (get_or text k 0 < 128) × (get_or text k 0 ≢ 92)
