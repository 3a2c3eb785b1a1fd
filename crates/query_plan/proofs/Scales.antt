-- Conditions that are told on a scale, and sides that are `@` or `$`.
use Rattle.std.proofs.Common.{◌≡◌, suc, Bool, true, false, List, [], ◌∷◌, ◌++◌, map, length, refl, sym, ap, subst, ◌∙◌, arith}
use Rattle.std.specs.Prelude.{IsTrue, nat_eq}
use Rattle.std.proofs.lemmas.Bool.Decides.{nat_tests}
use Rattle.path_grammar.specs.Tree as tree
use Rattle.path_grammar.specs.Tree.{Literal, Exprs, OneSegment, segments_of}
use Rattle.path_grammar.specs.View.{segment_view, nested_view, argument_step, comparable_step, expr_step, selector_step, call_step, segment_step, nested_step}
use Rattle.path_grammar.specs.declared.ast.Argument.TheFolds.{fold_out-SubQuery}
use Rattle.path_grammar.specs.declared.ast.SubQuery.{SubQuery, out-SubQuery}
use Rattle.path_grammar.specs.declared.ast.Segment.{Segment}
use Rattle.decisions.specs.Marks.{are_among}
use Rattle.decisions.specs.Decided.{is_alone, are_told, totals, all_literals, values_on, are_told_on}
use Rattle.decisions.specs.declared.scale.Scale.{Scale}

pub alone : (from_root : Bool) (ss : List Segment) → is_alone (tree.nested from_root (segments_of (map segment_view ss))) ≡ nat_eq (length ss) 0
alone from_root [] = refl
alone from_root (s ∷ ss) = let t : nat_eq (suc (length ss)) 0 ≡ false = grind (arith, nat_tests) in sym t

pub alone_view : (q : SubQuery) → is_alone (nested_view q) ≡ nat_eq (length (out-SubQuery q).segments.items) 0
alone_view q =
    ap is_alone (fold_out-SubQuery tree.Argument tree.Comparable tree.Expr tree.Selector tree.Call OneSegment tree.Nested argument_step comparable_step expr_step selector_step call_step segment_step nested_step q)
    ∙ alone (out-SubQuery q).from_root (out-SubQuery q).segments.items

pub on_scale : (s : Scale) (es : Exprs) (is_rooted all : Bool) (ls : List Literal) → s.is_rooted ≡ is_rooted → all ≡ are_told is_rooted es → all ≡ true → ls ≡ totals ++ all_literals es → IsTrue (are_among (values_on s) ls) → IsTrue (are_told_on s es)
on_scale s es is_rooted all ls e f g h k =
    let told : are_told s.is_rooted es ≡ true = ap (λ r. are_told r es) e ∙ sym f ∙ g in
    rw told (subst (λ xs. IsTrue (are_among (values_on s) xs)) h k)
