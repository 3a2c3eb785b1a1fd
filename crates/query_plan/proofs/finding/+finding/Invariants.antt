use Rattle.std.proofs.Common.{drop, map}
use Rattle.query_plan.specs.Planned.{claims_of, all_claims, condition_view, selection_view}
use Rattle.query_plan.specs.Slots.{AreClaimed}
use Rattle.query_plan.proofs.finding.+finding.Given as goal

abbrev pub invariant-in_stages-loop-stage : goal.invariant-in_stages-loop-stage
invariant-in_stages-loop-stage l = AreClaimed (claims_of l.plan.stages.items) (claims_of (drop l.stage-index l.stages))

abbrev pub invariant-in_selections-loop-selection : goal.invariant-in_selections-loop-selection
invariant-in_selections-loop-selection l = AreClaimed (claims_of l.plan.stages.items) (all_claims (map selection_view (drop l.selection-index l.selections)))

abbrev pub invariant-in_conditions-loop-condition : goal.invariant-in_conditions-loop-condition
invariant-in_conditions-loop-condition l = AreClaimed (claims_of l.plan.stages.items) (all_claims (map condition_view (drop l.condition-index l.conditions)))
