use Rattle.std.proofs.Common.{false, length, nat_lt, ◌||◌, ap, ◌∙◌}
use Rattle.std.specs.Option.{option_map_or}
use Rattle.wire_frames.specs.Requests.{key_of}
use Rattle.wire_frames.specs.Readings.{asked_of}
use Rattle.request_replies.specs.Tenants.{map_of}
use Rattle.hub_core.specs.Long.{is_long_by, is_long_for}
use Rattle.hub_core.proofs.Bounds.{of_request, of_refusal}
use Rattle.hub_core.proofs.weights.weigh_body.Goals as goal

pub returns-in-Ok-clause-most : goal.returns-in-Ok-clause-most
returns-in-Ok-clause-most c =
    let asked = asked_of c.in-Ok.request.command in
    let s = c.places_are_served.ensures.whole c.args.body.now c.in-Ok.request.number c.in-Ok.request.key asked c.in-Ok.ensures.value in
    of_request c.args.tenants.now c.args.body.now c.in-Ok.request.key c.in-Ok.request.number _ asked c.in-Ok.ensures.value s.1 c.most_for.ensures.most

pub returns-in-Ok-clause-long : goal.returns-in-Ok-clause-long
returns-in-Ok-clause-long c =
    let asked = asked_of c.in-Ok.request.command in
    let s = c.places_are_served.ensures.whole c.args.body.now c.in-Ok.request.number c.in-Ok.request.key asked c.in-Ok.ensures.value in
    ap (λ b. nat_lt 4096 (length c.args.body.now) || b) (c.is_long_for.ensures ∙ ap (λ key. option_map_or (is_long_for asked) (map_of key c.args.tenants.now) false) s.1
    ∙ ap (λ r. is_long_by r (map_of (key_of c.args.body.now) c.args.tenants.now)) c.in-Ok.ensures.value)

pub returns-in-Err-clause-most : goal.returns-in-Err-clause-most
returns-in-Err-clause-most c = of_refusal c.args.tenants.now c.args.body.now _ _ c.in-Err.ensures.value
