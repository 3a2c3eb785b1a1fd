use Rattle.std.proofs.Common.{Some, subst, ◌∙◌}
use Rattle.json_tape.specs.Document.{node_at}
use Rattle.tape_values.specs.Comparison.{value_of}
use Rattle.decisions.specs.Truth.{IsRelated}
use Rattle.compared_sides.proofs.sides.are_apart.Goals as goal

pub returns-clause-apart : goal.returns-clause-apart
returns-clause-apart c = λ told.
    subst (λ r. IsRelated r (Some (value_of (node_at c.args.doc.now c.args.child.0).tree)) (Some (value_of (node_at c.args.doc.now 0).tree))) (c.is.ensures told ∙ c.apart.ensures) c.relation-relation.ensures.related
