use Rattle.std.proofs.Common.{rules, ◌≡◌, true}
use Rattle.std.specs.Prelude.{is_ok}
use Rattle.query_machine.specs.Levels.{rest_of}
use Rattle.query_machine.proofs.Above.{put_on}
use Rattle.query_machine.proofs.levels.put_above.Goals as goal

pub returns-clause-moved : goal.returns-clause-moved
returns-clause-moved c =
    let d = c.args.doc.now in
    let plan = c.args.plan.now in
    let m = c.args.machine.now in
    let at = c.in_ok-next.next in
    let ok : is_ok c.push.result ≡ true = search rules in
    let items = rw ok at c.push.ensures.items in
    record {
      stack = rw (items, c.replace.ensures.value, c.replace.ensures.after)
          (put_on d plan c.args.units (rest_of d plan m) m.below.items (record { origin = m.origin; track = m.track; left = c.args.left }) c.args.origin at m.state.meter.left c.requires.stack (c.requires.above at c.in_ok-next.ensures));
      kept = c.requires.kept;
    }
