-- Which queries are singular, told from their trees (RFC 9535, section 2.3.5.1): such a query selects one node at most.
use Rattle.std.specs.Prelude.{Bool, true, false, ◌&&◌}
use Rattle.path_grammar.specs.Tree.{Segments, no_segments, segment, Selectors, no_selectors, selector, name, index, Nested, nested}

-- a name or an index, by itself
abbrev pub is_one : Selectors → Bool
is_one (selector (name scalars) no_selectors) = true
is_one (selector (index i) no_selectors) = true
is_one _ = false

-- child segments of one name or one index each
abbrev pub is_singular : Segments → Bool
is_singular no_segments = true
is_singular (segment false ss others) = is_one ss && is_singular others
is_singular (segment true ss others) = false

abbrev pub is_singular_query : Nested → Bool
is_singular_query (nested from_root ss) = is_singular ss
