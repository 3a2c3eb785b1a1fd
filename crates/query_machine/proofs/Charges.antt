-- What is charged, and when the units do not suffice.
use Rattle.std.proofs.Common.{◌≡◌, ℕ, ◌<◌, [], map, refl, arith}
use Rattle.path_grammar.specs.Tree as tree
use Rattle.path_grammar.specs.Tree.{OneSegment, Segments, no_segments, segment, selectors_of}
use Rattle.json_tape.specs.Nodes.{Node}
use Rattle.path_meaning.specs.declared.links.Link.{Link}
use Rattle.path_meaning.specs.declared.links.Link.TheVariants.{Key, Place}
use Rattle.node_lists.specs.Charge.{charge_by, charge_from}
use Rattle.node_lists.specs.Evaluation.{evaluated}
use Rattle.node_lists.specs.Links.{link_selector}
use Rattle.node_lists.specs.Paying.{Refuses}
use Rattle.node_lists.specs.declared.fault.SelectFault.{SelectFault}
use Rattle.node_lists.specs.declared.fault.SelectFault.TheVariants.{Costly, Memory}
use Rattle.query_plan.specs.Planned.{With, trees, all_claims, selection_view, stage_view, condition_step, operand_step, selection_step, nested_step, stage_step}
use Rattle.query_plan.specs.declared.plan.Condition.TheFolds.{fold_out-Stage}
use Rattle.query_plan.specs.declared.plan.Stage.{Stage}

pub refuses_from : (c1 left1 c2 left2 : ℕ) (e : SelectFault) → (left1 < c1 → left2 < c2) → Refuses c1 left1 e → Refuses c2 left2 e
refuses_from c1 left1 c2 left2 Costly f h = f h
refuses_from c1 left1 c2 left2 Memory f h = tt

pub one_unit : (root n : Node) (l : Link) → charge_by root (link_selector l) n ≡ 1
one_unit root n (Key name) = refl
one_unit root n (Place i) = refl

-- no nodes give no nodes, for nothing
pub nothing_from_nothing : (root : Node) (q : Segments) → evaluated root q [] ≡ []
nothing_from_nothing root no_segments = refl
nothing_from_nothing root (segment descend ss others) = nothing_from_nothing root others

pub nothing_for_nothing : (root : Node) (q : Segments) → charge_from root q [] ≡ 0
nothing_for_nothing root no_segments = refl
nothing_for_nothing root (segment descend ss others) = let h = nothing_for_nothing root others in omega (arith, h)

-- ---- A segment

pub stage_is : (s : Stage) → stage_view s ≡ record { tree = record { descend = s.descend; selectors = selectors_of (trees (map selection_view s.selections.items)) }; claims = all_claims (map selection_view s.selections.items) }
stage_is s = fold_out-Stage (With tree.Expr) (With tree.Comparable) (With tree.Selector) (With tree.Nested) (With OneSegment) condition_step operand_step selection_step nested_step stage_step s
