use Rattle.decisions.specs.Views.{test_view}
use Rattle.decisions.proofs.Decided.{decides}
use Rattle.decisions.proofs.decision.Decision.new.Goals as goal

pub invariant_of-result : goal.invariant_of-result
invariant_of-result c = (
  c.in_ok-literals.ensures.sorted,
  decides c.in_ok-literals.literals.items c.deref.result.now c.in_ok-tables.tables.items c.apart-relation.result (test_view c.args.test) c.deref.ensures.value c.in_ok-literals.ensures.known c.in_ok-tables.ensures.kinds c.in_ok-tables.ensures.right,
  c.in-Some.ensures,
  c.meets_root-is_rooted.ensures,
)
