-- What the replay of a script on a stream does: the script that a reader has left is replayed or refused as one at hand, and only an answer is written (this project's own).
use Rattle.std.specs.Prelude.{ℕ, List, [], IfSome}
use Rattle.std.specs.Io.KnownBytes.{Keeps, Appends}
use Rattle.std.specs.declared.option.Option.{Option}
use Rattle.standard_streams.specs.Fronts.{StopsShort}
use Rattle.path_server.specs.Replays.{RefusesScript, Replays}
use Rattle.path_server.specs.declared.script_streams.ReplayStreamFault.{ReplayStreamFault}
use Rattle.path_server.specs.declared.script_streams.ReplayStreamFault.TheVariants.{Read, Refused, Write}

-- the lines of the replies to the reader's script, where that is known, are written behind what the writer held
abbrev pub ReplaysStream : (keys : List (List ℕ)) → (left old new : Option (List ℕ)) → Type 0
ReplaysStream keys left old new = IfSome left (λ script. (lines : List ℕ) × Replays keys script [] lines × Appends old new lines)

-- of the lines of the replies to the reader's script, where that is known, a front is written, and not all
abbrev pub BreaksOff : (keys : List (List ℕ)) → (left old new : Option (List ℕ)) → Type 0
BreaksOff keys left old new = IfSome left (λ script. (lines : List ℕ) × Replays keys script [] lines × StopsShort lines old new)

-- a refusal is one of the reader's script, and nothing is written before the script is read and replayed; after that the writer may break the lines off
abbrev pub FailsReplay : (keys : List (List ℕ)) → (left old new : Option (List ℕ)) → ReplayStreamFault → Type 0
FailsReplay keys left old new (Read fault) = Keeps old new
FailsReplay keys left old new (Refused fault) = IfSome left (λ script. RefusesScript keys script fault) × Keeps old new
FailsReplay keys left old new (Write fault) = BreaksOff keys left old new
