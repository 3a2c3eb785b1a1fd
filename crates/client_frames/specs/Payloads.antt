-- The payloads of replies, as the server writes them.
use Rattle.std.specs.Prelude.{ℕ, ◌<◌, ◌^◌, List, ◌++◌, length, flat_map, IsTrue}
use Rattle.std.specs.List.{All}
use Rattle.store_names.specs.Names.{is_document_name}
use Rattle.tenant_map.specs.Listings.{number, name_field}
use Rattle.tenant_store.specs.Payloads.{field}

-- a hit: its document's name, the path and the value
pub record Found : Type 0 where
  pub document : List ℕ
  pub path : List ℕ
  pub value : List ℕ

abbrev pub found_bytes : Found → List ℕ
found_bytes f = name_field f.document ++ (field f.path ++ field f.value)

abbrev pub hits_payload : List Found → List ℕ
hits_payload hits = number (length hits) ++ flat_map found_bytes hits

abbrev pub names_payload : List (List ℕ) → List ℕ
names_payload names = number (length names) ++ flat_map name_field names

abbrev pub usage_payload : (collections documents bytes : ℕ) → List ℕ
usage_payload collections documents bytes = number collections ++ (number documents ++ number bytes)

-- the name is a document's, and each length fits into four bytes
abbrev pub IsFound : Found → Type 0
IsFound f = IsTrue (is_document_name f.document) × (length f.path < 2 ^ 32) × (length f.value < 2 ^ 32)

abbrev pub AreHits : List Found → Type 0
AreHits hits = (length hits < 2 ^ 32) × All IsFound hits

abbrev pub IsName : List ℕ → Type 0
IsName name = IsTrue (is_document_name name)

abbrev pub AreNames : List (List ℕ) → Type 0
AreNames names = (length names < 2 ^ 32) × All IsName names

-- each number fits into four bytes
abbrev pub AreCounts : (collections documents bytes : ℕ) → Type 0
AreCounts collections documents bytes = (collections < 2 ^ 32) × (documents < 2 ^ 32) × (bytes < 2 ^ 32)
