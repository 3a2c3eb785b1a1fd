-- What a look-up hands out, and what it leaves: this project's own.
use Rattle.std.specs.Prelude.{◌≡◌, ℕ, List, Bool, Option, Result, Ok, Err, IfSome}
use Rattle.path_grammar.specs.declared.ast.Query.{Query}
use Rattle.path_grammar.specs.View.{query_view}
use Rattle.path_types.specs.Verdict.{IsValidQuery}
use Rattle.path_types.specs.declared.query_text.QueryFault.{QueryFault}
use Rattle.query_cache.specs.declared.compiled.Compiled.{Compiled}
use Rattle.query_cache.specs.Texts.{Held, Admits}

abbrev pub query_in : Compiled → Query
query_in compiled = compiled.query.now

-- the cache holds its text
abbrev pub is_listed : Compiled → Bool
is_listed compiled = compiled.cached

-- a query that is handed out is that of the text
abbrev pub Owns : List ℕ → Option Query → Type 0
Owns text owned = IfSome owned (λ query. IsValidQuery text (query_view query))

-- An accepted look-up admits the text; a refusal leaves the list.
abbrev pub LeavesList : List ℕ → Held → Result Compiled QueryFault → Held → Type 0
LeavesList text old (Ok compiled) new = Admits text (is_listed compiled) old new
LeavesList text old (Err fault) new = new ≡ old
