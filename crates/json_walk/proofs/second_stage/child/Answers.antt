use Rattle.std.proofs.Common.{◌+◌, Some, arith}
use Rattle.tape_cells.proofs.Keeping.{unless_err}
use Rattle.json_walk.proofs.WalkEnds.{reads_small}
use Rattle.json_walk.proofs.WalkContainer.{is_object, is_behind, member_walks}
use Rattle.name_stamps.proofs.CheckKept.{insert_checked}
use Rattle.json_walk.proofs.CheckSteps.{child_checked, slot_on}
use Rattle.json_walk.proofs.second_stage.child.Goals as goal

pub valued-requires-2-clause-small : goal.valued-requires-2-clause-small
valued-requires-2-clause-small g c = reads_small c.args.k (c.args.k + 2) _ (omega arith) c.requires.small

pub returns-clause-walks : goal.returns-clause-walks
returns-clause-walks g c = λ w asks.
    member_walks c.args.looks.now.0 c.args.places.now c.requires.listed c.named.new.looks.0 _ c.args.k c.args.looks.now.1 c.named.new.looks.1 c.valued-2.new.looks.1 c.args.may_exceed.now c.valued-2.new.may_exceed c.args.builder.now c.valued-2.new.builder w c.in-Some.name.source c.valued-2.result
    (is_object g.row.OBJECT c.if-not-this.false) c.named.ensures.same (c.in-Some.ensures.named c.args.builder.now w c.args.may_exceed.now) c.valued-2.ensures.walks asks

pub returns-clause-checked : goal.returns-clause-checked
returns-clause-checked g c =
    let seen = insert_checked c.args.looks.now.0 c.args.builder.now c.args.slot c.args.seen.now c.insert.new.self c.in-Some.name.stamp c.in-Some.name.source _ c.requires.level c.requires.checked (c.requires.has_slot (is_behind _ (is_object g.row.OBJECT c.if-not-this.false))) c.in-Some.ensures.stamped (unless_err c.insert.result c.if-is_err.ensures.value c.insert.ensures) in
    child_checked c.args.looks.now.0 c.named.new.looks.0 c.named.ensures.same c.args.builder.now c.valued-2.new.builder c.insert.new.self (Some c.in-Some.name.source) c.valued-2.result c.valued-2.ensures.checked seen.0 seen.1

pub returns-clause-has_slot : goal.returns-clause-has_slot
returns-clause-has_slot g c =
    let seen = insert_checked c.args.looks.now.0 c.args.builder.now c.args.slot c.args.seen.now c.insert.new.self c.in-Some.name.stamp c.in-Some.name.source _ c.requires.level c.requires.checked (c.requires.has_slot (is_behind _ (is_object g.row.OBJECT c.if-not-this.false))) c.in-Some.ensures.stamped (unless_err c.insert.result c.if-is_err.ensures.value c.insert.ensures) in
    slot_on _ c.args.builder.now c.valued-2.new.builder c.args.slot c.insert.new.self c.valued-2.result c.valued-2.ensures.top (λ p. seen.2)
