-- The first value of a text that is refused, in the order of the text.
use Rattle.std.specs.Prelude.{◌≡◌, ℕ, ◌<◌, ◌⊎◌, List}
use Rattle.json_text.specs.Letters.{IsBlank}
use Rattle.json_text.specs.Tree.{Tree, Leaf, Arr, Obj, source_of}
use Rattle.json_text.specs.Grammar.{IsText}
use Rattle.json_text.specs.Tape.{Label, Top, IsAt}
use Rattle.json_text.specs.Verdict.{BreaksLimit, depth_limit}
use Rattle.json_text.specs.declared.tape.TextFault.{TextFault}
use Rattle.json_text.specs.declared.tape.TextFault.TheVariants as faults
use Rattle.text_places.specs.Levels.{LiesIn}
use Rattle.text_places.specs.declared.firsts.Sought.{Sought}
use Rattle.text_places.specs.declared.firsts.Sought.TheVariants as soughts

-- the value with this number, where the values of a tree are numbered from 0 in the order of the text, each before those in it
abbrev pub IsNumber : Tree → ℕ → Tree → Type 0
IsNumber t n part = (up : ℕ) × (label : Label) × IsAt t 0 Top 0 n up label part

-- such a value begins here, and none before it is such
pub record IsFirst (Is : Tree → ℕ → Tree → Type 0) (text : List ℕ) (at : ℕ) : Type 0 where
  pub tree : Tree
  pub is_text : IsText text tree
  pub number : ℕ
  pub part : Tree
  pub is_number : IsNumber tree number part
  pub is : Is tree number part
  pub place : at ≡ (source_of part).place
  pub first : (n : ℕ) (other : Tree) → n < number → IsNumber tree n other → Is tree n other → ⊥

-- a number that is not within the limits
abbrev pub IsBeyond : Tree → ℕ → Tree → Type 0
IsBeyond tree n part = BreaksLimit part

abbrev pub IsContainer : Tree → Type 0
IsContainer (Leaf s c) = ⊥
IsContainer (Arr s es) = Unit {0}
IsContainer (Obj s ms) = Unit {0}

-- an array or an object that lies in 256 others
abbrev pub OpensTooDeep : Tree → ℕ → Tree → Type 0
OpensTooDeep tree n part = IsContainer part × LiesIn tree n depth_limit

-- ---- by what is sought

abbrev pub is_sought : Sought → Tree → ℕ → Tree → Type 0
is_sought soughts.Depth = OpensTooDeep
is_sought soughts.Number = IsBeyond

abbrev pub fault_of : Sought → TextFault
fault_of soughts.Depth = faults.TooDeep
fault_of soughts.Number = faults.NumberLimit

-- a byte that stands between tokens, or is a comma or a colon
abbrev pub IsBetween : ℕ → Type 0
IsBetween b = IsBlank b ⊎ (b ≡ 44) ⊎ (b ≡ 58)
