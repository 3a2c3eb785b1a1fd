-- The order of names in which objects of many members keep them: by a hash, and by the scalar values where hashes meet.
use Rattle.std.specs.Prelude.{◌≡◌, ℕ, ◌+◌, ◌*◌, ◌<◌, List, [], ◌∷◌, length, map, get_or}
use Rattle.std.specs.List.{All, Contains}
use Rattle.std.specs.Ordering.{nat_cmp, on, then_cmp}
use Rattle.std.specs.declared.cmp.Ordering.{Ordering}
use Rattle.std.specs.declared.cmp.Ordering.TheVariants.{Less}
use Rattle.std.specs.List.Sorted.{IsPermutation}
use Rattle.std.specs.Str.{chars}
use Rattle.json_text.specs.Tree.{Members, NoMember, Member}
use Rattle.json_text.specs.Meaning.{meaning}
use Rattle.json_text.specs.Nodes.{size}
use Rattle.json_strings.specs.Spelling.{scalars_in, unquoted, IsQuoted}
use Rattle.json_text.specs.Limits.{bytes_at}
use Rattle.json_text.specs.Repeats.{IsObject}
use Rattle.json_text.specs.declared.tape.Entry.{Entry}
use Rattle.json_strings.specs.Keys.{Keyed, key_number, key_hash, name_hash, name_cmp, hashed_cmp}
use Rattle.name_order.specs.Orders.{Order, Kept, high_half, low_half}
use Rattle.json_text.specs.Tape.{entry_in}
use Rattle.json_text.specs.Suspects.{IsWide}

-- the members in document order, where the first has this number
abbrev pub keyed : Members → ℕ → List Keyed
keyed NoMember k = []
keyed (Member n t ms) k = record { number = k; name = meaning n.characters } ∷ keyed ms (k + size t)

-- a hash in front of a member's number
abbrev pub word_with : (hash : ℕ) → Keyed → ℕ
word_with hash x = hash * 4294967296 + x.number

-- that of the member's name
abbrev pub word_of : (factor : ℕ) → Keyed → ℕ
word_of factor x = word_with (key_hash factor x) x

-- ---- By the entries

-- what the name of the member with this number means
abbrev pub name_at : List ℕ → List Entry → ℕ → List ℕ
name_at text tape n = scalars_in (chars (unquoted (bytes_at text (entry_in tape n).label)))

abbrev pub name_in : List ℕ → List Entry → ℕ → List ℕ
name_in text tape word = name_at text tape (low_half word)

abbrev pub members_of : List ℕ → List ℕ
members_of words = map low_half words

-- the member in a word, with what its name means
abbrev pub key_in : List ℕ → List Entry → ℕ → Keyed
key_in text tape word = record { number = low_half word; name = name_in text tape word }

-- by the hashes in words, and by the names where hashes meet
abbrev pub word_cmp : List ℕ → List Entry → ℕ → ℕ → Ordering
word_cmp text tape = then_cmp (on high_half nat_cmp) (on (name_in text tape) name_cmp)

-- the name of the member in a word stands where its entry says, and has the hash in it
pub record IsNamed (factor : ℕ) (text : List ℕ) (tape : List Entry) (word : ℕ) : Type 0 where
  pub inside : low_half word < length tape
  pub quoted : IsQuoted text (entry_in tape (low_half word)).label
  pub hashed : high_half word ≡ name_hash factor (name_in text tape word)

-- members as words whose names rise
pub record AreNamed (factor : ℕ) (text : List ℕ) (tape : List Entry) (words : List ℕ) : Type 0 where
  pub each : All (IsNamed factor text tape) words
  pub rising : (j k : ℕ) → j < k → k < length words → hashed_cmp factor (name_in text tape (get_or words j 0)) (name_in text tape (get_or words k 0)) ≡ Less

-- all members of the object with this number, in the order of their names
pub record IsOrderOf (factor : ℕ) (text : List ℕ) (tape : List Entry) (n : ℕ) (words : List ℕ) : Type 0 where
  pub named : AreNamed factor text tape words
  pub all : (ms : Members) → IsObject text tape n ms → IsPermutation (map key_number (keyed ms (n + 1))) (members_of words)

-- the orders that are kept are those of objects below a number, and each wide one has its own
pub record AreKept (text : List ℕ) (tape : List Entry) (below : ℕ) (kept : Kept) : Type 0 where
  pub each : All (λ (o : Order). (o.object < below) × IsOrderOf kept.factor text tape o.object o.words) kept.orders
  pub all : (n : ℕ) → n < below → IsWide (entry_in tape n) → (o : Order) × Contains kept.orders o × (o.object ≡ n)
