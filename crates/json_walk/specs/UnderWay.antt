-- A walk that is under way (this project's own): it may stop at a spot, and go on from there later.
use Rattle.std.specs.Prelude.{◌≡◌, ◌≤◌, ◌<◌, ◌-◌, ◌^◌, ℕ, false, List, length, None, Result, Ok, Err}
use Rattle.structural_index.specs.declared.answer.Index.{Index}
use Rattle.json_text.specs.declared.tape.Level.TheVariants.{Root}
use Rattle.json_text.specs.declared.tape.Want.TheVariants as wants
use Rattle.json_text.specs.declared.tape.BuildFault.{BuildFault}
use Rattle.json_text.specs.declared.tape.BuildFault.TheVariants.{NotJson, Memory}
use Rattle.json_text.specs.Machine.{level_of}
use Rattle.json_text.specs.Answer.{IsJson, StandsForAll, HasDepth, IsNoJson}
use Rattle.json_text.specs.Limits.{AreWithinLimits}
use Rattle.json_text.specs.Suspects.{AreSuspects}
use Rattle.tape_cells.specs.Built.{standing, nothing}
use Rattle.name_stamps.specs.Stamps.{DuplicateCheck}
use Rattle.name_stamps.specs.declared.seen.SeenNames.{SeenNames}
use Rattle.json_walk.specs.declared.second_stage.Spot.{Spot}
use Rattle.json_walk.specs.declared.second_stage.Way.{Way}
use Rattle.json_walk.specs.declared.second_stage.Reading.{Reading}
use Rattle.json_walk.specs.Building.{IsBounded}
use Rattle.json_walk.specs.Walked.{IsListed, Walked, at, point}

-- where it stands
abbrev pub spot_of : Way → Spot
spot_of way = record { number = way.number; behind = way.behind }

-- Tokens lead there from the first place of the text with this index, and the names that they passed are seen. So many looks were taken before the first of them, and by now.
pub record IsUnderWay (text : List ℕ) (index : Index) (before now : ℕ) (seen : SeenNames) (way : Way) : Type 0 where
  pub listed : IsListed text index.places.items
  pub walked : Walked text index.places.items (point 0 (standing nothing wants.Value None) before false) (at (spot_of way) way.builder now way.may_exceed)
  pub inside : way.number ≤ length index.places.items
  pub opened : way.behind ≡ false → level_of way.builder.opens ≡ Root → ⊥
  pub checked : DuplicateCheck text way.builder seen

-- how many places are left
abbrev pub left : Index → Way → ℕ
left index way = length index.places.items - way.number

-- nothing of the text's value is left
abbrev pub IsOver : Way → Type 0
IsOver way = level_of way.builder.opens ≡ Root

-- what a reading shows of its text, and of the looks that it took
pub record IsReading (text : List ℕ) (before now : ℕ) (reading : Reading) : Type 0 where
  pub spelt : IsJson text
  pub stands : StandsForAll text reading.tape
  pub few : length reading.tape < 2 ^ 31
  pub depth : HasDepth text reading.depth
  pub numbers : reading.may_exceed ≡ false → AreWithinLimits text reading.tape
  pub looked : IsBounded text before now
  pub suspects : AreSuspects text reading.tape reading.suspects.items

-- how a walk ends
abbrev pub Ends : (text : List ℕ) (before now : ℕ) → Result Reading BuildFault → Type 0
Ends text before now (Ok reading) = IsReading text before now reading
Ends text before now (Err NotJson) = IsNoJson text
Ends text before now (Err Memory) = ⊥
