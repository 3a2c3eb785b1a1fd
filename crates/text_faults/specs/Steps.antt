-- What bytes were found to do, by the numbers of the states that were met.
use Rattle.std.specs.Prelude.{◌≡◌, ℕ, ◌+◌, ◌*◌, ◌<◌, ◌≤◌, List, length, get_or, Option, Some, None}
use Rattle.json_text.specs.declared.tape.Shape.{Shape}
use Rattle.json_text.specs.declared.tape.Shape.TheVariants as shapes
use Rattle.text_faults.specs.Moves.{next}
use Rattle.text_faults.specs.declared.marks.Move.{Move}
use Rattle.text_faults.specs.declared.marks.Move.TheVariants as moves
use Rattle.text_faults.specs.declared.marks.Now.{Now}
use Rattle.text_faults.specs.declared.marks.Now.TheVariants.{Value}
use Rattle.text_faults.specs.declared.steps.Step.{Step}
use Rattle.text_faults.specs.declared.steps.Step.TheVariants.{Unknown, To, Into, Out}

-- the steps of a state and an innermost open container begin here, behind its first one
abbrev pub row_of : Option Shape → ℕ
row_of None = 0
row_of (Some shapes.Array) = 256
row_of (Some shapes.Object) = 512

-- a step is that to a state with a number
abbrev pub IsInside : List Now → Step → Type 0
IsInside nows Unknown = Unit {0}
IsInside nows (To n) = n < length nows
IsInside nows (Into shape n) = n < length nows
IsInside nows (Out n) = n < length nows

abbrev pub move_of : List Now → Step → Move
move_of nows Unknown = moves.Refused
move_of nows (To n) = moves.To (get_or nows n Value)
move_of nows (Into shape n) = moves.Into shape (get_or nows n Value)
move_of nows (Out n) = moves.Out (get_or nows n Value)

-- a step that is known is what a byte does
abbrev pub IsRight : List Now → Step → Move → Type 0
IsRight nows step by = (step ≡ Unknown → ⊥) → IsInside nows step × (move_of nows step ≡ by)

-- the states that were met keep their numbers
pub record Keeps (before after : List Now) : Type 0 where
  pub more : length before ≤ length after
  pub same : (n : ℕ) → n < length before → get_or after n Value ≡ get_or before n Value

pub record AreSteps (nows : List Now) (steps : List Step) : Type 0 where
  pub long : length steps ≡ length nows * 1024
  pub right : (n byte : ℕ) (innermost : Option Shape) → n < length nows → byte < 256 → IsRight nows (get_or steps (n * 1024 + row_of innermost + byte) Unknown) (next (get_or nows n Value) innermost byte)
