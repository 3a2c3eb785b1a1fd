-- What a tenant answers to a command that lists (this project's own): the payload of the reply. All numbers are big-endian.
use Rattle.std.specs.Prelude.{ℕ, List, ◌∷◌, ◌++◌, length, flat_map}
use Rattle.std.specs.Map.{keys_of}
use Rattle.std.specs.Int.{w32, to_be_bytes}
use Rattle.tenant_map.specs.Maps.{Documents}

-- four bytes
unfoldable pub number : ℕ → List ℕ
number n = to_be_bytes w32 n

-- a name after its length byte
abbrev pub name_field : List ℕ → List ℕ
name_field name = length name ∷ name

abbrev pub names_listed : List (List ℕ) → List ℕ
names_listed names = flat_map name_field names

-- the number of documents and their names, in key order
abbrev pub listing : Documents → List ℕ
listing ds = number (length ds) ++ names_listed (keys_of ds)
