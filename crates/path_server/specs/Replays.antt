-- What the replay of a script answers: the first refusal that applies, or a line for each reply that its events get (this project's own).
use Rattle.std.specs.Prelude.{◌≡◌, ◌<◌, ◌≤◌, ℕ, List, [], ◌∷◌, ◌++◌, length, flat_map, Ok}
use Rattle.std.specs.Fmt.{decimal}
use Rattle.path_hub.specs.declared.event.Event.{Event}
use Rattle.path_hub.specs.declared.event.Reply.{Reply}
use Rattle.path_hub.specs.declared.fault.RunFault.{RunFault}
use Rattle.path_hub.specs.declared.fault.RunFault.TheVariants as run
use Rattle.path_hub.specs.Headline.{AreRefused, Runs}
use Rattle.path_server.specs.TextLines.{IsFirstBad, lines_in, text_limit}
use Rattle.path_server.specs.FrameLines.{frame_line}
use Rattle.path_server.specs.Scripts.{Spells, SpellsEvents}
use Rattle.path_server.specs.declared.text_lines.LinesFault.{LinesFault}
use Rattle.path_server.specs.declared.text_lines.LinesFault.TheVariants as lines
use Rattle.path_server.specs.declared.replay.ScriptFault.{ScriptFault}
use Rattle.path_server.specs.declared.replay.ScriptFault.TheVariants.{TooLong, BadLine, Keys, Memory}

-- a line of a reply: the connection's number in decimal, a space and the line of the frame
abbrev pub reply_line : Reply → List ℕ
reply_line r = decimal r.conn ++ 32 ∷ frame_line r.frame.items

abbrev pub reply_lines : List Reply → List ℕ
reply_lines rs = flat_map reply_line rs

-- the script's events are run, and a line for each reply stands behind what stood there before
pub record Replays (keys : List (List ℕ)) (script old new : List ℕ) : Type 0 where
  pub short : length script ≤ text_limit
  pub events : List Event
  pub spelled : SpellsEvents script events
  pub replies : List Reply
  pub runs : Runs keys events [] (Ok tt) replies
  pub appended : new ≡ old ++ reply_lines replies

-- why a script is refused: the first refusal that applies, in the order of the cases; want of memory is met only within the limit
abbrev pub RefusesScript : (keys : List (List ℕ)) (script : List ℕ) → ScriptFault → Type 0
RefusesScript keys script TooLong = text_limit < length script
RefusesScript keys script (BadLine number) = (length script ≤ text_limit) × IsFirstBad Spells 1 (lines_in script) number
RefusesScript keys script (Keys fault) = (length script ≤ text_limit) × ((events : List Event) × SpellsEvents script events) × AreRefused keys fault
RefusesScript keys script Memory = length script ≤ text_limit

-- the refusals of the parts as those of the whole
abbrev pub of_lines : LinesFault → ScriptFault
of_lines (lines.BadLine number) = BadLine number
of_lines lines.Memory = Memory

abbrev pub of_run : RunFault → ScriptFault
of_run (run.Keys fault) = Keys fault
of_run run.Memory = Memory
