-- What a connection of the loop is owed, and the bytes that moved on its stream: this project's own.
use Rattle.std.specs.Prelude.{Bool, false, not, ◌&&◌, Option, Some, None}
use Rattle.outbox.specs.Lines.{Line, owes}
use Rattle.outbox.specs.Traffic.{Traffic}
use Rattle.connection_turns.specs.declared.connection.Phase.{Phase}
use Rattle.connection_turns.specs.declared.connection.Phase.TheVariants.{Served, Lingering}
use Rattle.connection_turns.specs.declared.connection.Connection.{Connection}

-- what one is owed that is served; one that lingers is not
abbrev pub line_in : Phase → Line → Option Line
line_in Served line = Some line
line_in Lingering line = None

abbrev pub line_of : {S : Type 0} → Connection S → Option Line
line_of c = line_in c.phase c.outbox

-- what its stream shows
abbrev pub wire_of : {S : Type 0} → (S → Option Traffic) → Connection S → Option Traffic
wire_of told c = told c.socket.stream

-- it is read no more
abbrev pub has_left : {S : Type 0} → Connection S → Bool
has_left c = c.socket.is_left

-- one rests that is served, if nothing of it came that is not answered, and nothing is owed
abbrev pub rests_in : Phase → Bool → Bool
rests_in Served is_quiet = is_quiet
rests_in Lingering is_quiet = false

abbrev pub rests : {S : Type 0} → Connection S → Bool
rests c = rests_in c.phase (not c.is_due && (not c.has_part && (not c.ready.readable && (not c.ready.waiting && not (owes c.outbox)))))

-- one is lost that is served although its peer is gone
abbrev pub lost_in : Phase → Bool → Bool
lost_in Served is_gone = is_gone
lost_in Lingering is_gone = false

abbrev pub is_lost : {S : Type 0} → Connection S → Bool
is_lost c = lost_in c.phase c.is_gone
