use Rattle.std.proofs.Common.{◌∙◌, sym, ap}
use Rattle.json_tape.specs.Document.{node_at, string_meaning}
use Rattle.tape_values.specs.Fronts.{meant_by}
use Rattle.tape_values.proofs.Orders.{rests_tie}
use Rattle.tape_values.proofs.strings.compare_strings.Goals as goal

pub returns-in-Some : goal.returns-in-Some
returns-in-Some c =
    let d = c.args.doc.now in
    let meant = c.strings_mean_their_bytes.ensures in
    let both = c.in-Stored-Stored in
    let left = rw both.is-0 at c.requires.left in
    let right = rw both.is-1 at c.requires.right in
    let e = meant both.x.0 left.0 left.1 ∙ ap meant_by (sym c.text-bytes.ensures.value) in
    let f = meant both.y.0 right.0 right.1 ∙ ap meant_by (sym c.text.ensures.value) in
    let h = c.in-Some.ensures in
    rw (both.is-0, both.is-1)
    (c.compare_letters.ensures
    ∙ rw (c.new.ensures, c.new-in-Some.ensures) (rests_tie c.text-bytes.result.now c.text.result.now (string_meaning (node_at d both.x.0).tree) (string_meaning (node_at d both.y.0).tree) _ _ e f h.0 h.1 h.2))
