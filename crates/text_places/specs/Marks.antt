-- Marks of names: a number for each name, which names of one object share where they mean the same. One that no other name has is passed by.
use Rattle.std.specs.Prelude.{◌≡◌, ℕ, ◌+◌, ◌*◌, ◌/◌, ◌%◌, ◌^◌, ◌<◌, List, [], ◌∷◌, get_or, cond, eqb, encode_utf8_all}
use Rattle.std.specs.Str.{chars}
use Rattle.json_strings.specs.Spelling.{scalars_in, unquoted}
use Rattle.json_text.specs.Limits.{bytes_at}
use Rattle.json_text.specs.Grammar.{IsText}
use Rattle.json_text.specs.Tape.{Stands}
use Rattle.json_text.specs.Tree.{Tree}
use Rattle.json_text.specs.declared.tape.Entry.{Entry}
use Rattle.json_text.specs.declared.tape.Role.TheVariants as roles
use Rattle.text_places.specs.Twins.{AreTwins}

-- what the name of an entry means
abbrev pub spelled : List ℕ → Entry → List ℕ
spelled text e = scalars_in (chars (unquoted (bytes_at text e.label)))

-- The number of bytes with this number and one more. No fact of a text rests on which it is.
unfoldable pub with_byte : (number byte : ℕ) → ℕ
with_byte number byte = (((number + byte) % (2 ^ 64) * 0x9E3779B97F4A7C15) % (2 ^ 64) + ((number + byte) % (2 ^ 64) * 0x9E3779B97F4A7C15) % (2 ^ 64) / 2 ^ 32) % (2 ^ 64)

-- of bytes with this number and these
abbrev pub number_from : (number : ℕ) (bytes : List ℕ) → ℕ
number_from number [] = number
number_from number (b ∷ bs) = number_from (with_byte number b) bs

-- of what a name means, by its bytes as UTF-8
abbrev pub number_of : (name : List ℕ) → ℕ
number_of name = number_from 0 (encode_utf8_all name)

-- A mark by this factor of a name with this number, in the object with the number up. No fact of a text rests on which it is, but that it is not 0.
unfoldable pub mark_from : (factor up number : ℕ) → ℕ
mark_from factor up number = ((up * 0x9E3779B97F4A7C15) % (2 ^ 64) + number) % (2 ^ 64) * factor % (2 ^ 64) / 2 ^ 33 * 2 + 1

abbrev pub mark_of : (factor up : ℕ) (name : List ℕ) → ℕ
mark_of factor up name = mark_from factor up (number_of name)

abbrev pub mark_for : (factor : ℕ) → List ℕ → Entry → ℕ
mark_for factor text e = mark_of factor e.up (spelled text e)

-- the first n of these have a flag, where they are the numbers of so many values
abbrev pub AreFlagged : (values : ℕ) (suspects flags : List ℕ) (n : ℕ) → Type 0
AreFlagged values suspects flags n = (i : ℕ) → i < n → get_or suspects i 0 < values → 0 < get_or flags (get_or suspects i 0) 0

-- the first n members have the flags of their objects
abbrev pub AreChosen : (tape : List Entry) (flags marks : List ℕ) (n : ℕ) → Type 0
AreChosen tape flags marks n = (i : ℕ) (d : Entry) → i < n → (get_or tape i d).role ≡ roles.Member → get_or marks i 0 ≡ get_or flags (get_or tape i d).up 0

-- of the first n entries, those of members that were not 0 have marks of their names
abbrev pub AreMarked : (factor : ℕ) (text : List ℕ) (tape : List Entry) (old new : List ℕ) (n : ℕ) → Type 0
AreMarked factor text tape old new n = (i : ℕ) (d : Entry) → i < n → (get_or tape i d).role ≡ roles.Member → 0 < get_or old i 0 → get_or new i 0 ≡ mark_for factor text (get_or tape i d)

-- of two names of one object that mean the same, neither has 0
abbrev pub AreLeft : (text : List ℕ) (tape : List Entry) (marks : List ℕ) → Type 0
AreLeft text tape marks = (t : Tree) → IsText text t → Stands tape t → (m n a b : ℕ) → AreTwins text t m n a b → (0 < get_or marks m 0) × (0 < get_or marks n 0)

-- the entry is that of a member whose mark is not 0
abbrev pub IsLeft : List Entry → List ℕ → ℕ → Type 0
IsLeft tape marks n = (0 < get_or marks n 0) × ((d : Entry) → (get_or tape n d).role ≡ roles.Member)

-- ---- marks that come again

-- each that comes again stays
abbrev pub KeepsShared : List ℕ → List ℕ → Type 0
KeepsShared old new = (i j : ℕ) → (i ≡ j → ⊥) → 0 < get_or old i 0 → get_or old i 0 ≡ get_or old j 0 → get_or new i 0 ≡ get_or old i 0

unfoldable pub group_of : (factor mark : ℕ) → ℕ
group_of factor mark = (mark * factor) % (2 ^ 32) / 2048

-- the count of one mark more: 2 of any number but one
abbrev pub one_more : ℕ → ℕ
one_more n = cond (eqb n 0) 1 2

-- of the first n marks, the group of one that is not 0 has a count, and that of two such has 2
pub record AreCounted (factor : ℕ) (marks counts : List ℕ) (n : ℕ) : Type 0 where
  pub some : (i : ℕ) → i < n → 0 < get_or marks i 0 → 0 < get_or counts (group_of factor (get_or marks i 0)) 0
  pub shared : (i j : ℕ) → (i ≡ j → ⊥) → i < n → j < n → 0 < get_or marks i 0 → get_or marks i 0 ≡ get_or marks j 0 → get_or counts (group_of factor (get_or marks i 0)) 0 ≡ 2
