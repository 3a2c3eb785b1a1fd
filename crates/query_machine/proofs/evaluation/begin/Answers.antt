use Rattle.std.proofs.Common.{refl}
use Rattle.query_machine.proofs.Above.{begins_lowest}
use Rattle.query_machine.proofs.evaluation.begin.Goals as goal

pub returns : goal.returns
returns c =
    let d = c.args.doc.now in
    let b = begins_lowest d c.args.plan.now c.args.units c.root-from.result c.in_ok-track.track (rw c.root-from.ensures.first refl) (rw c.deref.ensures.value at c.in_ok-track.ensures) in
    record {
      on_way = record { stack = rw (c.new-3.ensures.items, b.ahead) b; kept = (c.in_ok-slots.ensures, rw c.new.ensures.items tt, c.no_lengths.ensures, rw c.new-2.ensures.items tt) };
      rest = rw c.new-3.ensures.items b.ahead;
      left = refl;
    }
