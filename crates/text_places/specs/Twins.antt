-- Names of one object that mean the same (RFC 8259, section 4), in the order of the text.
use Rattle.std.specs.Prelude.{◌≡◌, ℕ, ◌<◌, List, length, take, drop}
use Rattle.json_text.specs.Tree.{Source, Spelt, Tree}
use Rattle.json_text.specs.Grammar.{IsText}
use Rattle.json_text.specs.Letters.{IsString}
use Rattle.json_text.specs.Meaning.{meaning}
use Rattle.json_text.specs.Tape.{Top, Named, extent, IsAt}

-- the value with this number is a member of the object with the number up, under a name that begins here and means this
pub record IsNamed (text : List ℕ) (tree : Tree) (n up at : ℕ) (means : List ℕ) : Type 0 where
  pub name : Source
  pub characters : List Spelt
  pub value : Tree
  pub is_at : IsAt tree 0 Top 0 n up (Named (extent name)) value
  pub stands : name.bytes ≡ take (length name.bytes) (drop name.place text)
  pub is_string : IsString name.bytes characters
  pub place : at ≡ name.place
  pub meant : means ≡ meaning characters

-- the second member stands behind the first in their object, and their names mean the same
pub record AreTwins (text : List ℕ) (tree : Tree) (m n first second : ℕ) : Type 0 where
  pub behind : m < n
  pub up : ℕ
  pub means : List ℕ
  pub one : IsNamed text tree m up first means
  pub other : IsNamed text tree n up second means

-- two such names begin here, and no second one stands before theirs
pub record AreFirstTwins (text : List ℕ) (first second : ℕ) : Type 0 where
  pub tree : Tree
  pub is_text : IsText text tree
  pub m : ℕ
  pub n : ℕ
  pub twins : AreTwins text tree m n first second
  pub none_before : (i j a b : ℕ) → j < n → AreTwins text tree i j a b → ⊥
