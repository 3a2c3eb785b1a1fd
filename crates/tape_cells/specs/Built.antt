-- What a builder holds between its calls, and which state of the machine that is.
use Rattle.std.specs.Prelude.{ℕ, List, [], ◌∷◌, length, Option}
use Rattle.json_text.specs.declared.tape.Extent.{Extent}
use Rattle.json_text.specs.declared.tape.Entry.{Entry}
use Rattle.json_text.specs.declared.tape.Want.{Want}
use Rattle.json_text.specs.declared.tape.Open.{Open}
use Rattle.json_text.specs.Machine.{State, root}

-- the entries so far, the open containers from the innermost out to the root, and how many containers were open at most
pub record Built : Type 0 where
  pub entries : List Entry
  pub opens : List Open
  pub deep : ℕ

-- the state in which this may come next, and this name waits for its value
abbrev pub standing : Built → Want → Option Extent → State
standing b w name = record { entries = b.entries; opens = b.opens; want = w; name = name; deep = b.deep }

-- before the first token
abbrev pub nothing : Built
nothing = record { entries = []; opens = root 0 ∷ []; deep = 0 }

-- the number of the innermost container, and how many lie around it
abbrev pub top_of : List Open → ℕ
top_of [] = 0
top_of (o ∷ os) = o.entry

abbrev pub depth_of : List Open → ℕ
depth_of [] = 0
depth_of (o ∷ os) = length os

abbrev pub children_of : List Open → ℕ
children_of [] = 0
children_of (o ∷ os) = o.children
