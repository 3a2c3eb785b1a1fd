-- The exit statuses of the program (this project's own), by what happened: 0 for help and the version, 1 for a refused text, script or line, 2 for a refused query, 3 for a command line or keys that are none, 4 for the streams, the network and memory.
use Rattle.std.specs.Prelude.{ℕ}
use Rattle.clap.specs.Values.{kind_of}
use Rattle.clap.specs.declared.error.kind.ErrorKind.{ErrorKind}
use Rattle.clap.specs.declared.error.kind.ErrorKind.TheVariants.{DisplayHelp, DisplayVersion, OutOfMemory}
use Rattle.path_server.specs.declared.fault.QueryTextFault.{QueryTextFault}
use Rattle.path_server.specs.declared.fault.QueryTextFault.TheVariants as refusal
use Rattle.path_server.specs.declared.streams.QueryStreamFault.{QueryStreamFault}
use Rattle.path_server.specs.declared.streams.QueryStreamFault.TheVariants as stream
use Rattle.path_server.specs.declared.script_streams.ReplayStreamFault.{ReplayStreamFault}
use Rattle.path_server.specs.declared.script_streams.ReplayStreamFault.TheVariants as replay
use Rattle.path_server.specs.declared.replay.ScriptFault.{ScriptFault}
use Rattle.path_server.specs.declared.replay.ScriptFault.TheVariants as script
use Rattle.path_server.specs.declared.call_fault.CallFault.{CallFault}
use Rattle.path_server.specs.declared.call_fault.CallFault.TheVariants as call
use Rattle.path_server.specs.declared.call_streams.CallStreamFault.{CallStreamFault}
use Rattle.path_server.specs.declared.call_streams.CallStreamFault.TheVariants as calling
use Rattle.path_server.specs.declared.keys.KeysFault.{KeysFault}
use Rattle.path_server.specs.declared.keys.KeysFault.TheVariants as keys
use Rattle.tenant_map.specs.declared.tenants.TenantsFault.{TenantsFault}
use Rattle.tenant_map.specs.declared.tenants.TenantsFault.TheVariants as tenants
use Rattle.server_arguments.specs.declared.failure.Failure.{Failure}
use Rattle.server_arguments.specs.declared.failure.Failure.TheVariants.{CommandLine, Word, Words, Value, Query, Refused, Keys, Replay, Tenants, RepeatedKey, Net, Address, Key, KeyLine, File, RepeatedName, Write, Read, Call, Broken, Memory}

abbrev pub status_of_kind : ErrorKind → ℕ
status_of_kind DisplayHelp = 0
status_of_kind DisplayVersion = 0
status_of_kind OutOfMemory = 4
status_of_kind _ = 3

abbrev pub status_of_refusal : QueryTextFault → ℕ
status_of_refusal refusal.TooLong = 1
status_of_refusal refusal.NotUtf8 = 1
status_of_refusal refusal.NotJson = 1
status_of_refusal refusal.TooDeep = 1
status_of_refusal refusal.NumberLimit = 1
status_of_refusal refusal.LoneSurrogate = 1
status_of_refusal refusal.DuplicateName = 1
status_of_refusal refusal.QueryTooLong = 2
status_of_refusal refusal.NotWellFormed = 2
status_of_refusal refusal.NotValid = 2
status_of_refusal refusal.Costly = 2
status_of_refusal refusal.Memory = 4

abbrev pub status_of_query : QueryStreamFault → ℕ
status_of_query (stream.Read _) = 4
status_of_query (stream.Refused fault) = status_of_refusal fault
status_of_query (stream.Write _) = 4

abbrev pub status_of_keys : KeysFault → ℕ
status_of_keys keys.BadKeys = 3
status_of_keys keys.Memory = 4

abbrev pub status_of_tenants : TenantsFault → ℕ
status_of_tenants tenants.NoKeys = 3
status_of_tenants tenants.TooManyKeys = 3
status_of_tenants tenants.RepeatedKey = 3
status_of_tenants tenants.Memory = 4

abbrev pub status_of_script : ScriptFault → ℕ
status_of_script script.TooLong = 1
status_of_script (script.BadLine number) = 1
status_of_script (script.Keys fault) = status_of_tenants fault
status_of_script script.Memory = 4

abbrev pub status_of_replay : ReplayStreamFault → ℕ
status_of_replay (replay.Read _) = 4
status_of_replay (replay.Refused fault) = status_of_script fault
status_of_replay (replay.Write _) = 4

abbrev pub status_of_call : CallFault → ℕ
status_of_call call.TooLong = 1
status_of_call (call.BadLine number) = 1
status_of_call call.ReadFault = 4
status_of_call call.WriteFault = 4
status_of_call call.Memory = 4

abbrev pub status_of_call_stream : CallStreamFault → ℕ
status_of_call_stream (calling.Call fault) = status_of_call fault
status_of_call_stream (calling.Unwritten fault) = status_of_call fault
status_of_call_stream (calling.Write _) = 4

abbrev pub status_of : Failure → ℕ
status_of (CommandLine error) = status_of_kind (kind_of error)
status_of (Word _) = 3
status_of Words = 3
status_of (Value _) = 3
status_of (Query fault) = status_of_query fault
status_of (Refused at) = status_of_refusal at.fault
status_of (Keys fault) = status_of_keys fault
status_of (Replay fault) = status_of_replay fault
status_of (Tenants fault) = status_of_tenants fault
status_of (RepeatedKey _ _) = 3
status_of Net = 4
status_of (Address _) = 4
status_of (Key _) = 3
status_of (KeyLine _) = 3
status_of (File _) = 4
status_of (RepeatedName _) = 3
status_of (Write _) = 4
status_of (Read _) = 4
status_of (Call fault) = status_of_call_stream fault
status_of (Broken call) = status_of_call_stream call.fault
status_of Memory = 4
