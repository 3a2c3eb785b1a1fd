-- A call of a valid query has one argument.
use Rattle.std.proofs.Common.{◌≡◌, ◌≢◌, ℕ, ◌<◌, ◌≤◌, List, [], ◌∷◌, length, map, get_or, refl, sym, ap, ◌∙◌, arith}
use Rattle.std.specs.Prelude.{IsTrue}
use Rattle.path_grammar.specs.Tree as tree
use Rattle.path_grammar.specs.Tree.{OneSegment, call, argument, no_arguments, arguments_of}
use Rattle.path_grammar.specs.View.{argument_view, call_view, argument_step, comparable_step, expr_step, selector_step, call_step, segment_step, nested_step}
use Rattle.path_grammar.specs.declared.ast.Argument.TheFolds.{fold_out-Call}
use Rattle.path_grammar.specs.declared.ast.Call.{Call}
use Rattle.path_grammar.specs.declared.ast.Argument.{Argument}
use Rattle.path_types.specs.Validity.{is_valid_call, are_valid_arguments}

call_is : (c : Call) → call_view c ≡ call c.name.items (arguments_of (map argument_view c.arguments.items))
call_is c = fold_out-Call tree.Argument tree.Comparable tree.Expr tree.Selector tree.Call OneSegment tree.Nested argument_step comparable_step expr_step selector_step call_step segment_step nested_step c

not_one_argument : (f : List ℕ) (xs : List Argument) → length xs ≢ 1 → IsTrue (are_valid_arguments f (arguments_of (map argument_view xs))) → ⊥
not_one_argument f [] h v = absurd cc
not_one_argument f (x ∷ []) h v = absurd (h refl)
not_one_argument f (x ∷ y ∷ xs) h v = absurd cc

pub not_one_call : (c : Call) (xs : List Argument) → xs ≡ c.arguments.items → length xs ≢ 1 → IsTrue (is_valid_call (call_view c)) → ⊥
not_one_call c xs e h v = not_one_argument c.name.items xs h (rw (← e) at (rw (call_is c) at v))

one_argument : (xs : List Argument) (item : Argument) → 1 ≤ length xs → length xs < 2 → item ≡ get_or xs 0 item → arguments_of (map argument_view xs) ≡ argument (argument_view item) no_arguments
one_argument [] item h l e = absurd (omega arith)
one_argument (x ∷ []) item h l e = ap (λ (a : Argument). argument (argument_view a) no_arguments) (sym e)
one_argument (x ∷ y ∷ xs) item h l e = absurd (omega arith)

pub one_call : (c : Call) (xs : List Argument) (item : Argument) → xs ≡ c.arguments.items → 1 ≤ length xs → length xs < 2 → item ≡ get_or xs 0 item
    → call_view c ≡ call c.name.items (argument (argument_view item) no_arguments)
one_call c xs item e h l i = call_is c ∙ ap (λ args. call c.name.items args) (ap (λ (ys : List Argument). arguments_of (map argument_view ys)) (sym e) ∙ one_argument xs item h l i)
