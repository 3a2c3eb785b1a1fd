-- A file with one key: 32 hexadecimal digits of either case, with blanks, line ends or commas around them.
use Rattle.std.specs.Prelude.{ℕ, ◌==◌, ◌||◌, if◌then◌else◌, Bool, List, [], ◌∷◌, Result, Ok, Err}
use Rattle.hex.specs.Hex.{decode_sized}
use Rattle.hex.specs.declared.error.FromHexError.{FromHexError}
use Rattle.client_lines.specs.declared.keys.KeyFault.{KeyFault}
use Rattle.client_lines.specs.declared.keys.KeyFault.TheVariants.{NoKey, SeveralKeys, BadKey}

-- a tab, a line feed, a carriage return, a blank or a comma
abbrev pub is_separator : ℕ → Bool
is_separator byte = byte == 9 || byte == 10 || byte == 13 || byte == 32 || byte == 44

-- a byte before the first of some words
abbrev pub in_front : ℕ → List (List ℕ) → List (List ℕ)
in_front byte [] = (byte ∷ []) ∷ []
in_front byte (word ∷ words) = (byte ∷ word) ∷ words

-- the words between separators, of a text and of one that begins within a word
abbrev mutual
  pub words_in : List ℕ → List (List ℕ)
  words_in [] = []
  words_in (byte ∷ text) = if is_separator byte then words_in text else in_front byte (words_within text)

  pub words_within : List ℕ → List (List ℕ)
  words_within [] = [] ∷ []
  words_within (byte ∷ text) = if is_separator byte then [] ∷ words_in text else in_front byte (words_within text)

-- the key that a word is, in 32 digits
abbrev pub key_of : Result (List ℕ) FromHexError → Result (List ℕ) KeyFault
key_of (Ok key) = Ok key
key_of (Err fault) = Err BadKey

-- the key that is the one word of a text, or why there is none
abbrev pub key_in : (words : List (List ℕ)) → Result (List ℕ) KeyFault
key_in [] = Err NoKey
key_in (word ∷ []) = key_of (decode_sized word 16)
key_in (word ∷ another ∷ words) = Err SeveralKeys
