-- How a request is written: this project's own commands, from the side of who asks. A body is a command byte, a number in four bytes, a key of 16 bytes and the command's fields.
use Rattle.std.specs.Prelude.{◌≡◌, ℕ, ◌<◌, ◌^◌, List, [], ◌∷◌, ◌++◌, length, IsTrue}
use Rattle.std.specs.Int.{w32, to_be_bytes}
use Rattle.store_names.specs.Names.{is_collection_name, is_document_name}
use Rattle.wire_frames.specs.Requests.{Asked, Put, Get, Remove, ListNames, Query, DropCollection, Usage, PutNew, Asks, reading}

abbrev pub command_byte : Asked → ℕ
command_byte (Put c d text) = 1
command_byte (Get c d) = 2
command_byte (Remove c d) = 3
command_byte (ListNames c) = 4
command_byte (Query c query) = 5
command_byte (DropCollection c) = 6
command_byte Usage = 7
command_byte (PutNew c d text) = 8

-- a name behind its length
abbrev pub name_field : List ℕ → List ℕ
name_field name = length name ∷ name

abbrev pub fields : Asked → List ℕ
fields (Put c d text) = name_field c ++ (name_field d ++ text)
fields (Get c d) = name_field c ++ name_field d
fields (Remove c d) = name_field c ++ name_field d
fields (ListNames c) = name_field c
fields (Query c query) = name_field c ++ query
fields (DropCollection c) = name_field c
fields Usage = []
fields (PutNew c d text) = name_field c ++ (name_field d ++ text)

-- the body of the request
abbrev pub written : (number : ℕ) (key : List ℕ) → Asked → List ℕ
written number key asked = command_byte asked ∷ (to_be_bytes w32 number ++ (key ++ fields asked))

abbrev pub IsPlace : (collection document : List ℕ) → Type 0
IsPlace c d = IsTrue (is_collection_name c) × IsTrue (is_document_name d)

-- the names that are asked for are names
abbrev pub IsNamed : Asked → Type 0
IsNamed (Put c d text) = IsPlace c d
IsNamed (Get c d) = IsPlace c d
IsNamed (Remove c d) = IsPlace c d
IsNamed (ListNames c) = IsTrue (is_collection_name c)
IsNamed (Query c query) = IsTrue (is_collection_name c)
IsNamed (DropCollection c) = IsTrue (is_collection_name c)
IsNamed Usage = Unit {0}
IsNamed (PutNew c d text) = IsPlace c d

-- each request is read as what was written
abbrev pub ReadsBack : Type 0
ReadsBack = (number : ℕ) (key : List ℕ) (asked : Asked) → number < 2 ^ 32 → length key ≡ 16 → IsNamed asked → reading (written number key asked) ≡ Asks number key asked
