-- The verdict on a query text (RFC 9535, section 2.1): the first refusal that applies, in the order of the cases, or the tree of a valid query.
use Rattle.std.specs.Prelude.{◌≡◌, ℕ, ◌<◌, ◌≤◌, List, length, IsTrue, false}
use Rattle.path_grammar.specs.Tree.{Segments}
use Rattle.path_grammar.specs.Grammar.{IsQuery}
use Rattle.path_types.specs.Validity.{is_valid}
use Rattle.path_types.specs.declared.query_text.QueryFault.{QueryFault}
use Rattle.path_types.specs.declared.query_text.QueryFault.TheVariants.{QueryTooLong, NotWellFormed, NotValid, Memory}

-- the most bytes of a query text
abbrev pub query_limit : ℕ
query_limit = 4096

-- the text is a valid query with this tree
pub record IsValidQuery (query : List ℕ) (q : Segments) : Type 0 where
  pub short : length query ≤ query_limit
  pub spelled : IsQuery query q
  pub valid : IsTrue (is_valid q)

-- why a text is refused; want of memory is met only with a text within the limit
abbrev pub RefusesQueryText : List ℕ → QueryFault → Type 0
RefusesQueryText query QueryTooLong = query_limit < length query
RefusesQueryText query NotWellFormed = (length query ≤ query_limit) × ((q : Segments) → ¬ IsQuery query q)
RefusesQueryText query NotValid = (length query ≤ query_limit) × ((q : Segments) × IsQuery query q × (is_valid q ≡ false))
RefusesQueryText query Memory = length query ≤ query_limit
