-- What is kept of each text, its bytes and its valid query: this project's own.
use Rattle.std.specs.Prelude.{◌≡◌, ℕ, ◌<◌, ◌≤◌, ◌-◌, List, ◌∷◌, length, map, take, Bool, Option, Some, None}
use Rattle.std.specs.List.{AllByRecursion}
use Rattle.std.specs.declared.vec.Vec.{Vec}
use Rattle.std.specs.declared.alloc.Global.{Global}
use Rattle.lru.specs.LruCache.{LruCache, lru_cache}
use Rattle.path_grammar.specs.declared.ast.Query.{Query}
use Rattle.path_grammar.specs.View.{query_view}
use Rattle.path_types.specs.Verdict.{IsValidQuery}
use Rattle.query_cache.specs.Texts.{same}

abbrev pub texts_of : List (Vec ℕ Global × Query) → List (List ℕ)
texts_of es = map (λ e. e.0.items) es

-- the key is this text
abbrev pub is_text : List ℕ → Vec ℕ Global → Bool
is_text text key = same text key.items

abbrev pub IsKept : Vec ℕ Global × Query → Type 0
IsKept e = IsValidQuery e.0.items (query_view e.1)

pub record IsCache (es : List (Vec ℕ Global × Query)) (capacity : ℕ) : Type 0 where
  pub each : AllByRecursion IsKept es
  pub few : length es ≤ capacity
  pub some : 0 < capacity
  pub limited : capacity ≤ 1024

-- the query of a text that is not held goes to the front, or is handed back
abbrev pub Keeps : List ℕ → Query → LruCache (Vec ℕ Global) Query → Option Query → LruCache (Vec ℕ Global) Query → Type 0
Keeps text query old None new = (key : Vec ℕ Global) × (key.items ≡ text) × (new ≡ lru_cache ((key, query) ∷ take (old.cap - 1) old.entries) old.cap)
Keeps text query old (Some owned) new = (owned ≡ query) × (new ≡ old)
