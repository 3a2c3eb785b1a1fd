-- A tenant's map (this project's own): a text under the names of a collection and of a document, both in key order. A collection is there while it holds a document.
use Rattle.std.specs.Prelude.{◌≡◌, ◌<◌, ◌&&◌, cond, ℕ, List, [], ◌∷◌, length, Option, Some, None, option_and_then, unwrap_or}
use Rattle.std.specs.List.{sum_by, AllByRecursion}
use Rattle.std.specs.Map.{lookup, remove_entry, set_value, values_of}
use Rattle.tenant_map.specs.Keyed.{at, upsert, Ascends}

-- the texts of a collection, by document
abbrev pub Documents : Type 0
Documents = List (List ℕ × List ℕ)

-- by collection
abbrev pub Map : Type 0
Map = List (List ℕ × Documents)

abbrev pub IsCollection : Documents → Type 0
IsCollection ds = (0 < length ds) × Ascends ds

-- all keys ascend, and each collection holds a document
pub record IsMap (m : Map) : Type 0 where
  pub collections : Ascends m
  pub documents : AllByRecursion (λ e. IsCollection e.1) m

-- the text there
abbrev pub text_at : (collection document : List ℕ) → Map → Option (List ℕ)
text_at collection document m = option_and_then (λ ds. lookup (at document) ds) (lookup (at collection) m)

-- the documents of a collection
abbrev pub documents_of : (collection : List ℕ) → Map → Documents
documents_of collection m = unwrap_or (lookup (at collection) m) []

-- the map with that text there
abbrev pub put_text : (collection document text : List ℕ) → Map → Map
put_text collection document text m = upsert collection (upsert document text (documents_of collection m)) m

-- the map with these documents in a collection that is there
abbrev pub keep : (collection : List ℕ) → Documents → Map → Map
keep collection [] m = remove_entry (at collection) m
keep collection (d ∷ ds) m = set_value (at collection) m (d ∷ ds)

abbrev pub remove_by : Option Documents → (collection document : List ℕ) → Map → Map
remove_by None collection document m = m
remove_by (Some ds) collection document m = keep collection (remove_entry (at document) ds) m

-- the map with nothing there
abbrev pub remove_text : (collection document : List ℕ) → Map → Map
remove_text collection document m = remove_by (lookup (at collection) m) collection document m

-- the map without the collection
abbrev pub drop_texts : (collection : List ℕ) → Map → Map
drop_texts collection m = remove_entry (at collection) m

-- ---- What is counted

abbrev pub bytes_of : Documents → ℕ
bytes_of ds = sum_by length (values_of ds)

abbrev pub documents_in : Map → ℕ
documents_in m = sum_by length (values_of m)

abbrev pub bytes_in : Map → ℕ
bytes_in m = sum_by bytes_of (values_of m)

-- ---- Laws: a map is the texts at its places, and each command changes it at its own places alone

abbrev pub SameTexts : Type 0
SameTexts = (m n : Map) → IsMap m → IsMap n → ((c d : List ℕ) → text_at c d m ≡ text_at c d n) → m ≡ n

abbrev pub PutsOne : Type 0
PutsOne = (collection document text : List ℕ) (m : Map) (c d : List ℕ) → text_at c d (put_text collection document text m) ≡ cond (at c collection && at d document) (Some text) (text_at c d m)

abbrev pub RemovesOne : Type 0
RemovesOne = (collection document : List ℕ) (m : Map) (c d : List ℕ) → IsMap m → text_at c d (remove_text collection document m) ≡ cond (at c collection && at d document) None (text_at c d m)

abbrev pub DropsOne : Type 0
DropsOne = (collection : List ℕ) (m : Map) (c d : List ℕ) → IsMap m → text_at c d (drop_texts collection m) ≡ cond (at c collection) None (text_at c d m)
