-- What the translation of a query asks of its parts.
use Rattle.std.specs.Prelude.{Bool, false}
use Rattle.path_grammar.specs.Tree.{Argument, lit_argument, nodes_argument, func_argument, logical_argument}
use Rattle.path_types.specs.Validity.{is_valid_nested}

-- an argument of `count` or `value`: a query (RFC 9535, section 2.4.3)
abbrev pub is_valid_nodes : Argument → Bool
is_valid_nodes (nodes_argument q) = is_valid_nested q
is_valid_nodes (lit_argument l) = false
is_valid_nodes (func_argument c) = false
is_valid_nodes (logical_argument e) = false
