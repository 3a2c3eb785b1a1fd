-- What the body of a request asks: this project's own commands. A body is a command byte, a number in four bytes, a key of 16 bytes and the command's fields.
use Rattle.std.specs.Prelude.{ℕ, ◌==◌, List, [], ◌∷◌, length, take, drop, slice_index, nat_lt, nat_le, if◌then◌else◌, Bool, Option, Some, None, ◌&&◌, option_and_then}
use Rattle.std.specs.Int.{w32, from_be_bytes}
use Rattle.store_names.specs.Names.{is_collection_name, is_document_name}

-- a command with its fields
pub data Asked : Type 0 where
  Put : (collection document text : List ℕ) → Asked
  Get : (collection document : List ℕ) → Asked
  Remove : (collection document : List ℕ) → Asked
  ListNames : (collection : List ℕ) → Asked
  Query : (collection query : List ℕ) → Asked
  DropCollection : (collection : List ℕ) → Asked
  Usage : Asked
  PutNew : (collection document text : List ℕ) → Asked

-- a body is refused for one of three reasons, or asks something
pub data Reading : Type 0 where
  Short : (number : ℕ) → Reading
  BadCommand : (number : ℕ) (key : List ℕ) → Reading
  BadFields : (number : ℕ) (key : List ℕ) → Reading
  Asks : (number : ℕ) (key : List ℕ) (asked : Asked) → Reading

infixl 10 ◌>>=◌
abbrev pub ◌>>=◌ : {A B : Type 0} → Option A → (A → Option B) → Option B
o >>= f = option_and_then f o

-- a length byte and as many bytes, and what follows them
unfoldable pub prefixed : List ℕ → Option (List ℕ × List ℕ)
prefixed [] = None
prefixed (n ∷ bytes) = if nat_lt (length bytes) n then None else Some (take n bytes, drop n bytes)

-- a name behind its length byte, and what follows it
unfoldable pub name_at : (List ℕ → Bool) → List ℕ → Option (List ℕ × List ℕ)
name_at is_good fields = do
  part ← prefixed fields
  if is_good part.0 then Some part else None

-- a collection, a document and what follows them
unfoldable pub place_at : List ℕ → Option (List ℕ × List ℕ × List ℕ)
place_at fields = do
  c ← name_at is_collection_name fields
  d ← name_at is_document_name c.1
  Some (c.0, d.0, d.1)

-- a collection and a document, and nothing more
unfoldable pub whole_place_at : List ℕ → Option (List ℕ × List ℕ)
whole_place_at fields = do
  p ← place_at fields
  if length p.2 == 0 then Some (p.0, p.1) else None

-- a collection, and nothing more
unfoldable pub whole_collection_at : List ℕ → Option (List ℕ)
whole_collection_at fields = do
  c ← name_at is_collection_name fields
  if length c.1 == 0 then Some c.0 else None

-- what a command of the table asks with these fields, if they are its fields
unfoldable pub asked_at : ℕ → List ℕ → Option Asked
asked_at command fields =
    if command == 1 then (place_at fields >>= λ p. Some (Put p.0 p.1 p.2))
    else (if command == 2 then (whole_place_at fields >>= λ p. Some (Get p.0 p.1))
    else (if command == 3 then (whole_place_at fields >>= λ p. Some (Remove p.0 p.1))
    else (if command == 4 then (whole_collection_at fields >>= λ c. Some (ListNames c))
    else (if command == 5 then (name_at is_collection_name fields >>= λ c. Some (Query c.0 c.1))
    else (if command == 6 then (whole_collection_at fields >>= λ c. Some (DropCollection c))
    else (if command == 7 then (if length fields == 0 then Some Usage else None)
    else (if command == 8 then (place_at fields >>= λ p. Some (PutNew p.0 p.1 p.2))
    else None)))))))

-- 1 PUT, 2 GET, 3 REMOVE, 4 LIST, 5 QUERY, 6 DROP, 7 USAGE, 8 PUT_NEW
abbrev pub is_known : ℕ → Bool
is_known command = nat_le 1 command && nat_le command 8

abbrev pub command_of : List ℕ → ℕ
command_of body = slice_index body 0

abbrev pub number_of : List ℕ → ℕ
number_of body = from_be_bytes w32 (take 4 (drop 1 body))

abbrev pub key_of : List ℕ → List ℕ
key_of body = take 16 (drop 5 body)

abbrev pub fields_of : List ℕ → List ℕ
fields_of body = drop 21 body

abbrev pub with_fields : ℕ → List ℕ → Option Asked → Reading
with_fields number key None = BadFields number key
with_fields number key (Some asked) = Asks number key asked

-- the first refusal that applies, otherwise what is asked
unfoldable pub reading : List ℕ → Reading
reading body =
    if nat_lt (length body) 5 then Short 0
    else (if nat_lt (length body) 21 then Short (number_of body)
    else (if is_known (command_of body) then with_fields (number_of body) (key_of body) (asked_at (command_of body) (fields_of body))
    else BadCommand (number_of body) (key_of body)))
