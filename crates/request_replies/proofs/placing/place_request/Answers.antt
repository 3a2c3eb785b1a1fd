use Rattle.std.proofs.Common.{sym, refl}
use Rattle.wire_frames.specs.Requests.{Asks}
use Rattle.wire_frames.specs.Readings.{asked_of}
use Rattle.request_replies.proofs.Steps.{serves_none, shape_at}
use Rattle.request_replies.proofs.placing.place_request.Goals as goal

pub returns-in-None-clause-refused : goal.returns-in-None-clause-refused
returns-in-None-clause-refused c =
    let s = shape_at c.args.body.now (Asks c.in-Ok.request.number c.in-Ok.request.key (asked_of c.in-Ok.request.command)) c.in-Ok.ensures.value in
    λ before. serves_none c.args.tenants.now c.args.body.now before _ c.in-Ok.request.number c.in-Ok.request.key refl s.0 s.1 s.2 (sym c.in-None.ensures.place)

pub returns-in-Some-clause-placed : goal.returns-in-Some-clause-placed
returns-in-Some-clause-placed c = record { key = c.in-Ok.request.key; reads = c.in-Ok.ensures.value; at = sym c.in-Some.ensures.place }
