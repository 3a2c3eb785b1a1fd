-- The status byte of the reply that tells a fault of the store: this project's own table.
use Rattle.std.specs.Prelude.{ℕ}
use Rattle.tenant_map.specs.declared.faults.StoreFault.{StoreFault}
use Rattle.tenant_map.specs.declared.faults.StoreFault.TheVariants as faults

abbrev pub status_of : StoreFault → ℕ
status_of faults.TooLong = 5
status_of faults.NotUtf8 = 6
status_of faults.NotJson = 7
status_of faults.TooDeep = 8
status_of faults.NumberLimit = 9
status_of faults.LoneSurrogate = 10
status_of faults.DuplicateName = 11
status_of faults.TooManyCollections = 12
status_of faults.TooManyDocuments = 13
status_of faults.TooManyBytes = 14
status_of faults.NotFound = 15
status_of faults.ReplyTooLarge = 20
status_of faults.NoMemory = 21
status_of faults.Costly = 22
status_of faults.Exists = 23
