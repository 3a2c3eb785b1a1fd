use Rattle.std.proofs.Common.{◌≡◌, sym, ap, ◌∙◌, refl}
use Rattle.wire_frames.specs.Requests.{BadCommand, BadFields, reading}
use Rattle.wire_frames.specs.Readings.{refusal}
use Rattle.request_replies.proofs.Steps.{answers_at, serves_at, serves_short, shape_at}
use Rattle.request_replies.proofs.placing.refuse.Goals as goal

pub returns-in-Short : goal.returns-in-Short
returns-in-Short c = λ before. serves_short c.args.tenants.now c.args.body.now before _ c.in-Short.number refl (ap refusal (sym c.in-Short.is) ∙ c.requires)

pub returns-in-BadCommand : goal.returns-in-BadCommand
returns-in-BadCommand c =
    let r : BadCommand c.in-BadCommand.number c.in-BadCommand.key ≡ reading c.args.body.now = ap refusal (sym c.in-BadCommand.is) ∙ c.requires in
    let s = shape_at c.args.body.now _ r in
    serves_at c.args.tenants.now c.args.body.now 3 c.in-BadCommand.number c.in-BadCommand.key _ s.0 s.1 s.2 c.status_at.ensures.none c.status_at.ensures.some refl (λ m. answers_at m m c.args.body.now _ _ r (refl, refl))

pub returns-in-BadFields : goal.returns-in-BadFields
returns-in-BadFields c =
    let r : BadFields c.in-BadFields.number c.in-BadFields.key ≡ reading c.args.body.now = ap refusal (sym c.in-BadFields.is) ∙ c.requires in
    let s = shape_at c.args.body.now _ r in
    serves_at c.args.tenants.now c.args.body.now 4 c.in-BadFields.number c.in-BadFields.key _ s.0 s.1 s.2 c.status_at-in-BadFields.ensures.none c.status_at-in-BadFields.ensures.some refl
    (λ m. answers_at m m c.args.body.now _ _ r (refl, refl))
