-- Scripts of events (this project's own): a text of lines, each of which spells one event.
use Rattle.std.specs.Prelude.{◌≡◌, ℕ, ◌<◌, ◌^◌, List, ◌∷◌, ◌++◌, codes, Ok}
use Rattle.std.specs.Fmt.{decimal}
use Rattle.hex.specs.Hex.{decode_of}
use Rattle.path_hub.specs.declared.event.Event.{Event}
use Rattle.path_hub.specs.declared.event.Event.TheVariants.{Connect, Bytes, Disconnect}
use Rattle.path_server.specs.TextLines.{SpellAll}

-- a line begins with the connection's number in decimal and a space
pub record BeginsWith (line : List ℕ) (conn : ℕ) (word : List ℕ) : Type 0 where
  pub small : conn < 2 ^ 32
  pub line_is : line ≡ decimal conn ++ 32 ∷ word

-- then comes `open`, `close` or the hexadecimal digits of a piece, in either case
abbrev pub Says : ℕ → List ℕ → Event → Type 0
Says conn word (Connect c) = (c ≡ conn) × (word ≡ codes "open")
Says conn word (Disconnect c) = (c ≡ conn) × (word ≡ codes "close")
Says conn word (Bytes c piece) = (c ≡ conn) × (decode_of word ≡ Ok piece.items)

pub record Spells (line : List ℕ) (event : Event) : Type 0 where
  pub conn : ℕ
  pub word : List ℕ
  pub begins : BeginsWith line conn word
  pub says : Says conn word event

-- the script spells these events, one a line
abbrev pub SpellsEvents : List ℕ → List Event → Type 0
SpellsEvents script events = SpellAll Spells script events
