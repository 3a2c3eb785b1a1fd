-- A walk over a list of parts judges the part at its index and then the rest.
use Rattle.std.proofs.Common.{◌≡◌, ℕ, ◌+◌, ◌≤◌, ◌<◌, false, ◌&&◌, List, [], ◌∷◌, map, length, get_or, drop, refl, ap, arith}
use Rattle.std.proofs.lemmas.List.{drop_more}
use Rattle.path_grammar.specs.Tree.{exprs_of, arguments_of}
use Rattle.path_grammar.specs.View.{segments_view, selectors_view, selector_view, segment_view, expr_view, argument_view}
use Rattle.path_grammar.specs.declared.ast.Segment.{Segment}
use Rattle.path_grammar.specs.declared.ast.Selector.{Selector}
use Rattle.path_grammar.specs.declared.ast.Expr.{Expr}
use Rattle.path_grammar.specs.declared.ast.Argument.{Argument}
use Rattle.path_types.specs.Validity.{is_valid, are_valid, is_valid_selector, is_valid_expr, are_valid_exprs, are_valid_arguments}

pub selectors_more : (ss : List Selector) (i : ℕ) (d : Selector) → i < length ss → are_valid (selectors_view (drop i ss)) ≡ (is_valid_selector (selector_view (get_or ss i d)) && are_valid (selectors_view (drop (i + 1) ss)))
selectors_more ss i d lt = ap (λ (xs : List Selector). are_valid (selectors_view xs)) (drop_more ss i d lt)

pub segments_more : (ss : List Segment) (i : ℕ) (d : Segment) → i < length ss → is_valid (segments_view (drop i ss)) ≡ (are_valid (segment_view (get_or ss i d)).selectors && is_valid (segments_view (drop (i + 1) ss)))
segments_more ss i d lt = ap (λ (xs : List Segment). is_valid (segments_view xs)) (drop_more ss i d lt)

pub exprs_more : (es : List Expr) (i : ℕ) (d : Expr) → i < length es → are_valid_exprs (exprs_of (map expr_view (drop i es))) ≡ (is_valid_expr (expr_view (get_or es i d)) && are_valid_exprs (exprs_of (map expr_view (drop (i + 1) es))))
exprs_more es i d lt = ap (λ (xs : List Expr). are_valid_exprs (exprs_of (map expr_view xs))) (drop_more es i d lt)

pub more_arguments : (f : List ℕ) (xs : List Argument) → 2 ≤ length xs → false ≡ are_valid_arguments f (arguments_of (map argument_view xs))
more_arguments f [] h = absurd (omega arith)
more_arguments f (x ∷ []) h = absurd (omega arith)
more_arguments f (x ∷ y ∷ xs) h = refl
