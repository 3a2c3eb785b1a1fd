use Rattle.std.proofs.Common.{refl}
use Rattle.tape_values.proofs.Settled.{settled_parts}
use Rattle.tape_values.proofs.fronts.leave_nothing_open.Goals as goal

pub returns-in-Ok-from_utf8 : goal.returns-in-Ok-from_utf8
returns-in-Ok-from_utf8 c = λ h.
    settled_parts c.args.text.now c.split_at.result.0.now c.split_at.result.1.now c.boundary.result c.split_at.ensures.front c.split_at.ensures.back c.in-Ok-from_utf8.ensures.1 c.in-Ok.ensures.1 c.in-Ok.characters.now c.in-Ok.ensures.0 (c.if-not-are_settled.ensures refl)
