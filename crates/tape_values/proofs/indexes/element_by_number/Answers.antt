use Rattle.tape_values.proofs.indexes.element_by_number.Goals as goal

pub returns-then-i-place-clause-nodes : goal.returns-then-i-place-clause-nodes
returns-then-i-place-clause-nodes c =
    let way = c.in-Index.ensures in
    let same = c.if-i-place.true in
    rw (← same) (c.elements_stand_by_place.ensures c.args.n.0 c.in_ok-found.found.0 c.in-Index.i way.0 c.requires.inside c.in_ok-found.ensures.inside c.in_ok-found.ensures.child way.1)
