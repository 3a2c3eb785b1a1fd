-- How payloads are read from the front, in the contracts of private functions.
use Rattle.std.specs.Prelude.{ℕ, ◌==◌, zero, suc, List, [], ◌∷◌, ◌++◌, length, take, drop, nat_lt, if◌then◌else◌, Option, Some, None, option_and_then}
use Rattle.std.specs.Int.{w32, from_be_bytes}
use Rattle.store_names.specs.Names.{is_document_name}
use Rattle.wire_frames.specs.Requests.{◌>>=◌, name_at}
use Rattle.client_frames.specs.Payloads.{Found}
use Rattle.store_names.specs.declared.names.DocName.{DocName}
use Rattle.client_frames.specs.declared.payloads.Hit.{Hit}
use Rattle.client_frames.specs.declared.payloads.Usage.{Usage}

unfoldable pub bytes_at : ℕ → List ℕ → Option (List ℕ × List ℕ)
bytes_at n bytes = if nat_lt (length bytes) n then None else Some (take n bytes, drop n bytes)

unfoldable pub number_at : List ℕ → Option (ℕ × List ℕ)
number_at bytes = if nat_lt (length bytes) 4 then None else Some (from_be_bytes w32 (take 4 bytes), drop 4 bytes)

unfoldable pub field_at : List ℕ → Option (List ℕ × List ℕ)
field_at bytes = do
  size ← number_at bytes
  bytes_at size.0 size.1

unfoldable pub hit_at : List ℕ → Option (Found × List ℕ)
hit_at bytes = do
  name ← name_at is_document_name bytes
  path ← field_at name.1
  value ← field_at path.1
  Some (record { document = name.0; path = path.0; value = value.0 }, value.1)

unfoldable pub usage_at : List ℕ → Option (ℕ × ℕ × ℕ)
usage_at bytes = do
  collections ← number_at bytes
  documents ← number_at collections.1
  size ← number_at documents.1
  if length size.1 == 0 then Some (collections.0, documents.0, size.0) else None

-- so many items, one behind the other
unfoldable pub items_at : {A : Type 0} → (List ℕ → Option (A × List ℕ)) → ℕ → List ℕ → Option (List A × List ℕ)
items_at item zero bytes = Some ([], bytes)
items_at item (suc n) bytes = do
  first ← item bytes
  later ← items_at item n first.1
  Some (first.0 ∷ later.0, later.1)

-- these items first
abbrev pub behind : {A : Type 0} → List A → Option (List A × List ℕ) → Option (List A × List ℕ)
behind first later = option_and_then (λ l. Some (first ++ l.0, l.1)) later

abbrev pub found_of : Hit → Found
found_of h = record { document = h.document.bytes.now; path = h.path.now; value = h.value.now }

abbrev pub name_of : DocName → List ℕ
name_of name = name.bytes.now

abbrev pub counts_of : Usage → ℕ × ℕ × ℕ
counts_of u = (u.collections, u.documents, u.bytes)
