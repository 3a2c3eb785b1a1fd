-- Which failure each cause gives. Its place, address or file is told only if there is memory for it.
use Rattle.std.specs.Prelude.{◌≡◌, ◌≢◌, ℕ, ◌+◌, ◌*◌, ◌<◌, List, [], length, get_or, slice_index_or, IsTrue, string_bytes}
use Rattle.std.specs.Char.{is_ascii_hexdigit}
use Rattle.std.specs.declared.io.ErrorKind.{ErrorKind}
use Rattle.std.specs.declared.io.ErrorKind.TheVariants as kind
use Rattle.path_server.specs.declared.streams.QueryStreamFault.{QueryStreamFault}
use Rattle.path_server.specs.declared.streams.QueryStreamFault.TheVariants as stream
use Rattle.path_server.specs.declared.call_fault.CallFault.{CallFault}
use Rattle.path_server.specs.declared.call_fault.CallFault.TheVariants.{ReadFault, WriteFault}
use Rattle.path_server.specs.declared.call_streams.CallStreamFault.{CallStreamFault}
use Rattle.path_server.specs.declared.call_streams.CallStreamFault.TheVariants as calling
use Rattle.path_server.specs.declared.keys.KeysFault.{KeysFault}
use Rattle.path_server.specs.declared.keys.KeysFault.TheVariants as keys
use Rattle.tenant_map.specs.declared.tenants.TenantsFault.{TenantsFault}
use Rattle.tenant_map.specs.declared.tenants.TenantsFault.TheVariants as tenants
use Rattle.server_arguments.specs.declared.failure.Failure.{Failure}
use Rattle.server_arguments.specs.declared.failure.Failure.TheVariants.{Query, Refused, Keys, Tenants, RepeatedKey, Key, Net, Address, File, Call, Broken, Memory}

-- a query that was not answered
abbrev pub IsOfQuery : QueryStreamFault → Failure → Type 0
IsOfQuery fault (Query told) = told ≡ fault
IsOfQuery fault (Refused at) = fault ≡ stream.Refused at.fault
IsOfQuery fault _ = ⊥

abbrev pub AreDigits : (words : List ℕ) (at : ℕ) → Type 0
AreDigits words at = (j : ℕ) → j < 32 → IsTrue (is_ascii_hexdigit (get_or words (at + j) 0))

-- 32 hexadecimal digits stand there, and a comma behind them
abbrev pub IsKeyAt : (words : List ℕ) (at : ℕ) → Type 0
IsKeyAt words at = (at + 32 < length words) × (get_or words (at + 32) 0 ≡ 44) × AreDigits words at

-- the number, from 1 on, of the first key that does not stand so in its 33 bytes
abbrev pub IsFirstBad : (words : List ℕ) (number : ℕ) → Type 0
IsFirstBad words number = (n : ℕ) × (number ≡ n + 1) × ((i : ℕ) → i < n → IsKeyAt words (33 * i)) × ¬ IsKeyAt words (33 * n)

-- keys that are not in their written form, with the number of the first that is not
abbrev pub IsOfKeys : (words : List ℕ) → KeysFault → Failure → Type 0
IsOfKeys words keys.BadKeys (Key number) = IsFirstBad words number
IsOfKeys words keys.Memory (Keys told) = told ≡ keys.Memory
IsOfKeys words _ _ = ⊥

-- the keys at two places, of which the first comes last, are equal
abbrev pub AreEqual : List (List ℕ) → (n first : ℕ) → Type 0
AreEqual keys n first = (first < n) × (n < length keys) × (slice_index_or keys n [] ≡ slice_index_or keys first [])

-- keys that make no tenants, with the numbers from 1 on of two that are equal
abbrev pub IsOfTenants : List (List ℕ) → TenantsFault → Failure → Type 0
IsOfTenants keys fault (RepeatedKey number first) = (fault ≡ tenants.RepeatedKey) × ((n : ℕ) × (m : ℕ) × (number ≡ n + 1) × (first ≡ m + 1) × AreEqual keys n m)
IsOfTenants keys fault (Tenants told) = told ≡ fault
IsOfTenants keys fault _ = ⊥

-- an address that the system refused
abbrev pub IsOfAddress : (address : List ℕ) → ErrorKind → Failure → Type 0
IsOfAddress address reason (Address at) = (string_bytes at.address ≡ address) × (at.reason ≡ reason)
IsOfAddress address reason Net = Unit {0}
IsOfAddress address reason _ = ⊥

-- a file that the system did not read
abbrev pub IsOfFile : (file : List ℕ) → ErrorKind → Failure → Type 0
IsOfFile file reason (File at) = (reason ≢ kind.OutOfMemory) × (string_bytes at.file ≡ file) × (at.reason ≡ reason)
IsOfFile file reason Memory = Unit {0}
IsOfFile file reason _ = ⊥

-- whether the connection broke
abbrev pub IsBroken : CallFault → Type 0
IsBroken ReadFault = Unit {0}
IsBroken WriteFault = Unit {0}
IsBroken _ = ⊥

abbrev pub IsBrokenOff : CallStreamFault → Type 0
IsBrokenOff (calling.Call fault) = IsBroken fault
IsBrokenOff (calling.Unwritten fault) = IsBroken fault
IsBrokenOff _ = ⊥

-- a call that was not answered
abbrev pub IsOfCall : (address : List ℕ) → CallStreamFault → Failure → Type 0
IsOfCall address fault (Call told) = told ≡ fault
IsOfCall address fault (Broken call) = IsBrokenOff fault × (call.fault ≡ fault) × (string_bytes call.address ≡ address)
IsOfCall address fault _ = ⊥
