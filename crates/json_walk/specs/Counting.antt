-- How many places and how many source bytes a text has, over its bytes and over its tree.
use Rattle.std.specs.Prelude.{◌≡◌, ℕ, zero, suc, ◌+◌, Bool, not, ◌||◌, cond, List, length}
use Rattle.byte_masks.specs.Classes.{op_byte, blank_byte}
use Rattle.structural_index.specs.Places.{byte, is_inside, places}
use Rattle.json_text.specs.Tree.{Tree, Leaf, Arr, Obj, Elements, NoElement, Element, Members, NoMember, Member}
use Rattle.json_text.specs.Grammar.{IsText}

-- byte i is of a string, a number or a word: it stands inside a string or is neither a blank nor a structural character
abbrev pub is_source_byte : List ℕ → ℕ → Bool
is_source_byte text i = is_inside text i || not (blank_byte (byte text i) || op_byte (byte text i))

-- how many such bytes stand before byte i
unfoldable pub source_bytes_before : List ℕ → ℕ → ℕ
source_bytes_before text zero = 0
source_bytes_before text (suc i) = cond (is_source_byte text i) (suc (source_bytes_before text i)) (source_bytes_before text i)

-- The source bytes of the names, strings, numbers and words of a tree.
abbrev mutual
  pub source_bytes : Tree → ℕ
  source_bytes (Leaf s c) = length s.bytes
  source_bytes (Arr s es) = source_bytes_of_elements es
  source_bytes (Obj s ms) = source_bytes_of_members ms

  pub source_bytes_of_elements : Elements → ℕ
  source_bytes_of_elements NoElement = 0
  source_bytes_of_elements (Element t es) = source_bytes t + source_bytes_of_elements es

  pub source_bytes_of_members : Members → ℕ
  source_bytes_of_members NoMember = 0
  source_bytes_of_members (Member n t ms) = length n.source.bytes + source_bytes t + source_bytes_of_members ms

-- The tokens of a tree: one of a scalar, two of an empty container. Each element counts one more than its own tokens, each member three more, for the comma or the end, the name and the colon.
abbrev mutual
  pub tokens : Tree → ℕ
  tokens (Leaf s c) = 1
  tokens (Arr s NoElement) = 2
  tokens (Arr s (Element t es)) = 1 + tokens_of_elements (Element t es)
  tokens (Obj s NoMember) = 2
  tokens (Obj s (Member n t ms)) = 1 + tokens_of_members (Member n t ms)

  pub tokens_of_elements : Elements → ℕ
  tokens_of_elements NoElement = 0
  tokens_of_elements (Element t es) = tokens t + 1 + tokens_of_elements es

  pub tokens_of_members : Members → ℕ
  tokens_of_members NoMember = 0
  tokens_of_members (Member n t ms) = tokens t + 3 + tokens_of_members ms

-- ---- laws

-- a JSON text has a place for each token of its tree
abbrev pub PlacesAreTokens : Type 0
PlacesAreTokens = (text : List ℕ) (t : Tree) → IsText text t → length (places text) ≡ tokens t

-- and its source bytes are those of its tree
abbrev pub SourceBytesAreTheTrees : Type 0
SourceBytesAreTheTrees = (text : List ℕ) (t : Tree) → IsText text t → source_bytes_before text (length text) ≡ source_bytes t
