-- A segment that is a lone name or index.
use Rattle.std.proofs.Common.{◌≡◌, false, [], ◌∷◌, map, refl}
use Rattle.path_grammar.specs.Tree as tree
use Rattle.path_grammar.specs.Tree.{OneSegment, selectors_of}
use Rattle.path_meaning.specs.Links.{link_selector, link_view}
use Rattle.path_meaning.specs.declared.links.Link.{Link}
use Rattle.query_plan.specs.Planned.{With, trees, all_claims, selection_view, stage_view, condition_step, operand_step, selection_step, nested_step, stage_step}
use Rattle.query_plan.specs.declared.plan.Condition.TheFolds.{fold_out-Stage}
use Rattle.query_plan.specs.declared.plan.Stage.{Stage}

pub stage_is : (s : Stage) → stage_view s ≡ record { tree = record { descend = s.descend; selectors = selectors_of (trees (map selection_view s.selections.items)) }; claims = all_claims (map selection_view s.selections.items) }
stage_is s = fold_out-Stage (With tree.Expr) (With tree.Comparable) (With tree.Selector) (With tree.Nested) (With OneSegment) condition_step operand_step selection_step nested_step stage_step s

pub linked : (s : Stage) (l : Link) → s.descend ≡ false → trees (map selection_view s.selections.items) ≡ link_selector l ∷ [] → (stage_view s).tree ≡ link_view l
linked s l e f = rw (stage_is s, e, f) refl
