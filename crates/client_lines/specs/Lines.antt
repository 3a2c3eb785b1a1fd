-- The lines that a client prints of a reply: this project's own.
use Rattle.std.specs.Prelude.{ℕ, ◌==◌, List, [], ◌∷◌, ◌++◌, Bool, if◌then◌else◌, map, flat_map, codes, nat_eq, IsUtf8}
use Rattle.std.specs.Cmp.Lexicographic.{pointwise}
use Rattle.json.specs.Print.{quoted}
use Rattle.client_frames.specs.Payloads.{Found}
use Rattle.client_lines.specs.declared.documents.LineFault.{LineFault}
use Rattle.client_lines.specs.declared.documents.LineFault.TheVariants.{NotUtf8, Memory}

-- the document, a tab, the path, a tab and the value
abbrev pub hit_line : Found → List ℕ
hit_line f = f.document ++ (9 ∷ (f.path ++ (9 ∷ (f.value ++ 10 ∷ []))))

abbrev pub hit_lines : List Found → List ℕ
hit_lines hits = flat_map hit_line hits

-- a line feed, which stands between the parts of a value alone, is turned to a blank
abbrev pub blanked : ℕ → ℕ
blanked byte = if byte == 10 then 32 else byte

-- a hit's line as a JSON object
unfoldable pub json_line : Found → List ℕ
json_line f = codes "{\"document\":\"" ++ (f.document ++ (codes "\",\"path\":" ++ (quoted f.path ++ (codes ",\"value\":" ++ (map blanked f.value ++ codes "}\n")))))

abbrev pub json_lines : List Found → List ℕ
json_lines hits = flat_map json_line hits

-- each path is UTF-8, as a text of JSON is (RFC 8259, section 8.1)
abbrev pub AreUtf8 : List Found → Type 0
AreUtf8 [] = Unit {0}
AreUtf8 (f ∷ fs) = IsUtf8 f.path × AreUtf8 fs

-- why a hit with this path has no such line
abbrev pub RefusesPath : (path : List ℕ) → LineFault → Type 0
RefusesPath path NotUtf8 = ¬ IsUtf8 path
RefusesPath path Memory = Unit {0}
RefusesPath path _ = ⊥

-- why hits have no such lines
abbrev pub RefusesHits : List Found → LineFault → Type 0
RefusesHits hits NotUtf8 = ¬ AreUtf8 hits
RefusesHits hits Memory = Unit {0}
RefusesHits hits _ = ⊥

-- a line for each name
abbrev pub name_line : List ℕ → List ℕ
name_line name = name ++ 10 ∷ []

abbrev pub name_lines : List (List ℕ) → List ℕ
name_lines names = flat_map name_line names

-- the line of a hit in the form that is asked for, as an object of JSON or plain
abbrev pub line_in : Bool → Found → List ℕ
line_in json f = if json then json_line f else hit_line f

-- the documents of hits that stand behind one of this document, each once: those of a document stand behind one another
unfoldable pub documents_behind : (last : List ℕ) → List Found → List (List ℕ)
documents_behind last [] = []
documents_behind last (f ∷ fs) = if pointwise nat_eq f.document last then documents_behind last fs else f.document ∷ documents_behind f.document fs

-- no document has the name of no byte
abbrev pub documents_of : List Found → List (List ℕ)
documents_of hits = documents_behind [] hits
