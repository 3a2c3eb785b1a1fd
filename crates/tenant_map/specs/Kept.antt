-- What is kept of each document (this project's own): its name's bytes, and the text with its tree.
use Rattle.std.specs.Prelude.{ℕ, ◌≤◌, List, length}
use Rattle.std.specs.List.{AllByRecursion}
use Rattle.std.specs.declared.vec.Vec.{Vec}
use Rattle.std.specs.declared.alloc.Global.{Global}
use Rattle.json_tape.specs.Document.{Doc, tree_of}
use Rattle.json_tape.specs.Verdict.{IsAccepted}
use Rattle.tenant_map.specs.Keyed.{seen_by}
use Rattle.tenant_map.specs.Maps.{Documents}

pub record IsKept (e : Vec ℕ Global × Doc) : Type 0 where
  pub short : length e.0.items ≤ 128
  pub accepted : IsAccepted e.1.text (tree_of e.1)

abbrev pub AreKept : List (Vec ℕ Global × Doc) → Type 0
AreKept es = AllByRecursion IsKept es

-- the texts under their names
abbrev pub texts : List (Vec ℕ Global × Doc) → Documents
texts es = seen_by (λ k. k.items) (λ d. d.text) es
