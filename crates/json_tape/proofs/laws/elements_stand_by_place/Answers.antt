use Rattle.json_tape.specs.Document.{IsDocument, count}
use Rattle.json_tape.proofs.Behind.{behind}
use Rattle.json_tape.proofs.laws.elements_stand_by_place.Goals as goal

pub returns : goal.returns
unfolding count
returns c =
    let r = c.root.ensures in
    let d = c.args.doc.now in
    let s : IsDocument d = record { accepted = r.accepted; tape = r.tape; small = r.small } in
    behind d s
