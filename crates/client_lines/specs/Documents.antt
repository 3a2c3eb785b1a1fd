-- The lines of a dump: a document's name and its text, as members of a JSON object (RFC 8259), and why a line is none.
use Rattle.std.specs.Prelude.{◌≡◌, ℕ, List, [], ◌∷◌, ◌++◌, codes, None, Option, option_and_then, IsSome, IsUtf8}
use Rattle.json.specs.Print.{quoted}
use Rattle.serde_json.specs.Data.{Data, string, object, member, no_members}
use Rattle.serde_json.specs.Read.{read}
use Rattle.serde_json.specs.Find.{get, as_str}
use Rattle.client_lines.specs.declared.documents.LineFault.{LineFault}
use Rattle.client_lines.specs.declared.documents.LineFault.TheVariants.{NotUtf8, NotJson, NoName, NoText, Memory}

-- an object with a name and a text
abbrev pub document : (name text : List ℕ) → Data
document name text = object (member (codes "name") (string name) (member (codes "text") (string text) no_members))

-- its text
abbrev pub document_text : (name text : List ℕ) → List ℕ
document_text name text = codes "{\"name\":" ++ (quoted name ++ (codes ",\"text\":" ++ (quoted text ++ codes "}")))

-- and a line feed
abbrev pub document_line : (name text : List ℕ) → List ℕ
document_line name text = document_text name text ++ 10 ∷ []

-- the string under a name, in a line that is a JSON text of an object
abbrev pub string_in : (line key : List ℕ) → Option (List ℕ)
string_in line key = option_and_then (λ d. option_and_then as_str (get key d)) (read line)

-- why a line has no name and text: the first reason in this order, or want of memory, which only a line of UTF-8 meets
abbrev pub Refuses : LineFault → (line : List ℕ) → Type 0
Refuses NotUtf8 line = ¬ IsUtf8 line
Refuses NotJson line = IsUtf8 line × (read line ≡ None)
Refuses NoName line = IsUtf8 line × IsSome (read line) × (string_in line (codes "name") ≡ None)
Refuses NoText line = IsUtf8 line × IsSome (string_in line (codes "name")) × (string_in line (codes "text") ≡ None)
Refuses Memory line = IsUtf8 line
Refuses _ line = ⊥
