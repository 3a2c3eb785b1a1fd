use Rattle.std.proofs.Common.{rules, ◌++◌, ◌∙◌, ap}
use Rattle.wire_frames.specs.Readings.{asked_of}
use Rattle.client_frames.specs.Sent.{parts}
use Rattle.client_frames.proofs.Sending.{is_request}
use Rattle.client_frames.proofs.requests.write_request.Goals as goal

pub returns-in-Ok-clause-appended : goal.returns-in-Ok-clause-appended
returns-in-Ok-clause-appended c =
    let given = c.parts_of-given.result in
    c.in-Ok.ensures.appended ∙ ap (λ x. c.args.out.now.items ++ x)
    (ap (λ h. h ++ (c.args.key.now ++ parts given.collection.now given.document.now given.rest.now)) c.head_of-head.ensures
    ∙ is_request c.args.number c.args.key.now (asked_of c.args.command.now) given.command c.body_length.result (parts given.collection.now given.document.now given.rest.now) (search rules) c.parts_of-given.ensures.command c.parts_of-given.ensures.fields c.body_length.ensures)
