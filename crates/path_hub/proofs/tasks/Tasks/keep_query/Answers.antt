use Rattle.std.proofs.Common.{refl}
use Rattle.wire_frames.specs.Readings.{asked_of}
use Rattle.path_hub.specs.UnderWay.{query_in}
use Rattle.path_hub.proofs.UnderWay.{copied}
use Rattle.path_hub.proofs.tasks.Tasks.keep_query.Goals as goal

pub returns-clause-ok : goal.returns-clause-ok
returns-clause-ok c = (
  _,
  (refl, copied (query_in (asked_of c.args.request.now.command)) c.in-Some.collection.bytes.now c.in-Some.query.now _ _ c.in-Some.ensures c.in_ok-from_slice.ensures.items c.in_ok-from_slice-2.ensures.items),
  refl,
  c.in_ok-insert.ensures.updates.0,
)
