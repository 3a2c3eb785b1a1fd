-- How much a tenant holds, and how much it may: this project's own limits.
use Rattle.std.specs.Prelude.{◌≡◌, ℕ, ◌≤◌, List, length, nat_lt, if◌then◌else◌, Option, Some, None}
use Rattle.std.specs.Map.{lookup}
use Rattle.tenant_map.specs.declared.faults.StoreFault.{StoreFault}
use Rattle.tenant_map.specs.declared.faults.StoreFault.TheVariants.{TooManyCollections, TooManyDocuments, TooManyBytes}
use Rattle.tenant_map.specs.declared.usage.Usage.{Usage}
use Rattle.tenant_map.specs.Keyed.{at}
use Rattle.tenant_map.specs.Maps.{Documents, Map, IsMap, documents_in, bytes_in}

abbrev pub collection_quota : ℕ
collection_quota = 16

abbrev pub document_quota : ℕ
document_quota = 1000

abbrev pub byte_quota : ℕ
byte_quota = 16777216

-- how much a map holds
abbrev pub usage_of : Map → Usage
usage_of m = record { collections = length m; documents = documents_in m; bytes = bytes_in m }

-- the first quota that a usage is above
unfoldable pub quota_by : Usage → Option StoreFault
quota_by usage =
    if nat_lt collection_quota usage.collections then Some TooManyCollections
    else (if nat_lt document_quota usage.documents then Some TooManyDocuments
    else (if nat_lt byte_quota usage.bytes then Some TooManyBytes else None))

abbrev pub quota_fault : Map → Option StoreFault
quota_fault m = quota_by (usage_of m)

-- the lists are a map, these numbers count it, and it is within the quotas
pub record IsCounted (m : Map) (documents bytes : ℕ) : Type 0 where
  pub ordered : IsMap m
  pub documents_is : documents ≡ documents_in m
  pub bytes_is : bytes ≡ bytes_in m
  pub few_collections : length m ≤ collection_quota
  pub few_documents : documents ≤ document_quota
  pub few_bytes : bytes ≤ byte_quota

abbrev pub replaced_text : Option (List ℕ) → Usage
replaced_text None = record { collections = 1; documents = 0; bytes = 0 }
replaced_text (Some text) = record { collections = 1; documents = 1; bytes = length text }

abbrev pub replaced_by : List ℕ → Option Documents → Usage
replaced_by document None = record { collections = 0; documents = 0; bytes = 0 }
replaced_by document (Some ds) = replaced_text (lookup (at document) ds)

-- what a put there replaces
abbrev pub replaced : (collection document : List ℕ) → Map → Usage
replaced collection document m = replaced_by document (lookup (at collection) m)
