-- What a tenant answers to a command that puts, removes or drops (this project's own): the first refusal that applies, in the order of the statuses, and the map after it.
use Rattle.std.specs.Prelude.{◌≡◌, ◌⊎◌, ℕ, List, Option, Some, None}
use Rattle.json_tape.specs.Tree.{Tree}
use Rattle.json_tape.specs.Verdict.{IsAccepted, IsRefused}
use Rattle.json_tape.specs.Answer.{NoneApplies}
use Rattle.json_text.specs.declared.tape.TextFault.{TextFault}
use Rattle.json_text.specs.declared.tape.TextFault.TheVariants as verdict
use Rattle.tenant_map.specs.declared.faults.StoreFault.{StoreFault}
use Rattle.tenant_map.specs.declared.faults.StoreFault.TheVariants as faults
use Rattle.tenant_map.specs.Maps.{Map, put_text, text_at}
use Rattle.tenant_map.specs.Quotas.{quota_fault}

-- no refusal of a text applies
abbrev pub IsDocument : List ℕ → Type 0
IsDocument text = (t : Tree) × IsAccepted text t

-- the text is a document, and the tenant's first fault with it is this one
abbrev pub FailsQuota : (collection document text : List ℕ) → Map → StoreFault → Type 0
FailsQuota collection document text m fault = IsDocument text × (quota_fault (put_text collection document text m) ≡ Some fault)

-- Why a text is refused: its verdict. Want of memory is met only with a text that is neither too long nor not UTF-8.
abbrev pub FailsVerdict : List ℕ → StoreFault → Type 0
FailsVerdict text faults.TooLong = IsRefused text verdict.TooLong
FailsVerdict text faults.NotUtf8 = IsRefused text verdict.NotUtf8
FailsVerdict text faults.NotJson = IsRefused text verdict.NotJson
FailsVerdict text faults.TooDeep = IsRefused text verdict.TooDeep
FailsVerdict text faults.NumberLimit = IsRefused text verdict.NumberLimit
FailsVerdict text faults.LoneSurrogate = IsRefused text verdict.LoneSurrogate
FailsVerdict text faults.DuplicateName = IsRefused text verdict.DuplicateName
FailsVerdict text faults.NoMemory = NoneApplies text 2
FailsVerdict text _ = ⊥

-- Why a put is refused: the text's verdict, then the quotas as they would be counted after it.
abbrev pub RefusesPut : (collection document text : List ℕ) → Map → StoreFault → Type 0
RefusesPut collection document text m faults.TooManyCollections = FailsQuota collection document text m faults.TooManyCollections
RefusesPut collection document text m faults.TooManyDocuments = FailsQuota collection document text m faults.TooManyDocuments
RefusesPut collection document text m faults.TooManyBytes = FailsQuota collection document text m faults.TooManyBytes
RefusesPut collection document text m fault = FailsVerdict text fault

-- a put that nothing refuses
pub record AcceptsPut (collection document text : List ℕ) (old new : Map) : Type 0 where
  pub document_is : IsDocument text
  pub within : quota_fault (put_text collection document text old) ≡ None
  pub put : new ≡ put_text collection document text old

-- no document is there
abbrev pub IsFree : (collection document : List ℕ) → Map → Type 0
IsFree collection document m = text_at collection document m ≡ None

-- Why a put of a new document is refused: the text's verdict, then the document that is there, then the quotas as of a put.
abbrev pub RefusesPutNew : (collection document text : List ℕ) → Map → StoreFault → Type 0
RefusesPutNew collection document text m faults.Exists = IsDocument text × (IsFree collection document m → ⊥)
RefusesPutNew collection document text m faults.TooManyCollections = IsFree collection document m × FailsQuota collection document text m faults.TooManyCollections
RefusesPutNew collection document text m faults.TooManyDocuments = IsFree collection document m × FailsQuota collection document text m faults.TooManyDocuments
RefusesPutNew collection document text m faults.TooManyBytes = IsFree collection document m × FailsQuota collection document text m faults.TooManyBytes
RefusesPutNew collection document text m fault = FailsVerdict text fault

-- a put of a new document that nothing refuses
pub record AcceptsPutNew (collection document text : List ℕ) (old new : Map) : Type 0 where
  pub free : IsFree collection document old
  pub put : AcceptsPut collection document text old new

-- why a text that was read is not kept: a quota, or want of memory
abbrev pub FailsKeeping : (collection document text : List ℕ) → Map → StoreFault → Type 0
FailsKeeping collection document text m fault = (fault ≡ faults.NoMemory) ⊎ (quota_fault (put_text collection document text m) ≡ Some fault)

-- the text's verdict as a fault of the store
abbrev pub of_text : TextFault → StoreFault
of_text verdict.TooLong = faults.TooLong
of_text verdict.NotUtf8 = faults.NotUtf8
of_text verdict.NotJson = faults.NotJson
of_text verdict.TooDeep = faults.TooDeep
of_text verdict.NumberLimit = faults.NumberLimit
of_text verdict.LoneSurrogate = faults.LoneSurrogate
of_text verdict.DuplicateName = faults.DuplicateName
of_text verdict.Memory = faults.NoMemory

-- the fault of a command on what has to be there, by what was found
abbrev pub missing : {X : Type 0} → Option X → Option StoreFault
missing None = Some faults.NotFound
missing (Some x) = None
