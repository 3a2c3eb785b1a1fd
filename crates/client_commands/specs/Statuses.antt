-- The exit statuses of the program path_client (this project's own): 0 for help and the version and where whoever reads the output closes it, 1 where the server refuses a request or a text is too long, 2 where a query is refused or too long, 3 for an invalid command line or key, and 4 where there is no answer: for the streams, the network and memory.
use Rattle.std.specs.Prelude.{ℕ, ◌||◌, ◌==◌, if◌then◌else◌}
use Rattle.clap.specs.Values.{kind_of}
use Rattle.clap.specs.declared.error.kind.ErrorKind.{ErrorKind}
use Rattle.clap.specs.declared.error.kind.ErrorKind.TheVariants.{DisplayHelp, DisplayVersion, OutOfMemory}
use Rattle.client_frames.specs.declared.requests.SendFault.TheVariants as send
use Rattle.path_types.specs.declared.query_text.QueryFault.{QueryFault}
use Rattle.path_types.specs.declared.query_text.QueryFault.TheVariants as query
use Rattle.client_commands.specs.declared.failure.Failure.{Failure}
use Rattle.client_commands.specs.declared.failure.Failure.TheVariants.{Word, Variable, Words, AddressMissing, NoAddress, Timeout, NoKeyFile, KeyFileUnread, KeyFile, CollectionName, DocumentName, NameQuery, Send, Refused, SomeRefused, Closed}
use Rattle.client_commands.specs.declared.options.CommandLineFault.{CommandLineFault}
use Rattle.client_commands.specs.declared.options.CommandLineFault.TheVariants.{Printed, Failed}

-- of a request that the server refuses, by the reply's status: 16 to 18 and 22 are those of a query
abbrev pub status_of_refusal : ℕ → ℕ
status_of_refusal status = if status == 16 || status == 17 || status == 18 || status == 22 then 2 else 1

-- of a query's text that is refused, as the reply's status (docs/PROTOCOL.md); want of memory is no refusal of a text
abbrev pub status_of_query : QueryFault → ℕ
status_of_query query.QueryTooLong = 16
status_of_query query.NotWellFormed = 17
status_of_query query.NotValid = 18
status_of_query query.Memory = 21

abbrev pub status_of : Failure → ℕ
status_of (Word _) = 3
status_of (Variable _) = 3
status_of Words = 3
status_of AddressMissing = 3
status_of NoAddress = 3
status_of NoKeyFile = 3
status_of Timeout = 3
status_of (KeyFileUnread _) = 3
status_of (KeyFile _) = 3
status_of CollectionName = 3
status_of DocumentName = 3
status_of NameQuery = 3
status_of (Send send.TextTooLong) = 1
status_of (Send send.QueryTooLong) = 2
status_of (Refused status) = status_of_refusal status
status_of SomeRefused = 1
status_of Closed = 0
status_of _ = 4

abbrev pub status_of_kind : ErrorKind → ℕ
status_of_kind DisplayHelp = 0
status_of_kind DisplayVersion = 0
status_of_kind OutOfMemory = 4
status_of_kind _ = 3

abbrev pub status_of_fault : CommandLineFault → ℕ
status_of_fault (Printed error) = status_of_kind (kind_of error)
status_of_fault (Failed failure) = status_of failure
