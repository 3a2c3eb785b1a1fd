-- What a builder keeps, so that its tape can take each entry: which entries are open, and that all numbers have room.
use Rattle.std.specs.Prelude.{◌≡◌, ℕ, ◌^◌, ◌<◌, true, List, [], ◌∷◌}
use Rattle.json_text.specs.declared.tape.Extent.{Extent}
use Rattle.json_text.specs.declared.tape.Entry.{Entry}
use Rattle.json_text.specs.declared.tape.Level.{Level}
use Rattle.json_text.specs.declared.tape.Level.TheVariants.{Root, Inside}
use Rattle.json_text.specs.declared.tape.Open.{Open}
use Rattle.tape_cells.specs.Cells.{container_at}

-- an open container is the entry with its number
abbrev pub IsOpened : List Entry → Level → ℕ → Type 0
IsOpened es Root n = Unit {0}
IsOpened es (Inside shape) n = container_at es n ≡ true

abbrev pub AreOpened : List Entry → List Open → Type 0
AreOpened es [] = Unit {0}
AreOpened es (o ∷ os) = IsOpened es o.level o.entry × (o.entry < 2 ^ 24) × AreOpened es os

abbrev pub HasRoom : Extent → Type 0
HasRoom x = (x.start < 2 ^ 24) × (x.len < 2 ^ 24)
