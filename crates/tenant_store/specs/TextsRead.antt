-- The documents that a tenant keeps, as a query sees them: their names, and the trees of their texts.
use Rattle.std.specs.Prelude.{ℕ, List, [], ◌∷◌}
use Rattle.std.specs.declared.vec.Vec.{Vec}
use Rattle.std.specs.declared.alloc.Global.{Global}
use Rattle.json_tape.specs.Document.{Doc, tree_of}
use Rattle.tenant_store.specs.Payloads.{Text}

-- a document, read
abbrev pub text_read : (name : List ℕ) → Doc → Text
text_read name d = record { name = name; tree = tree_of d }

-- the documents, read
abbrev pub texts_read : List (Vec ℕ Global × Doc) → List Text
texts_read [] = []
texts_read (e ∷ es) = text_read e.0.items e.1 ∷ texts_read es
