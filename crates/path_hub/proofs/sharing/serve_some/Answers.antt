use Rattle.std.proofs.Common.{sym, subst, ◌∙◌, refl, inl, inr}
use Rattle.request_replies.specs.Tenants.{Serves}
use Rattle.path_hub.proofs.UnderWay.{held_behind, read_on_way, shares_before, task_same}
use Rattle.path_hub.proofs.Spending.{body_spends}
use Rattle.path_hub.proofs.sharing.serve_some.Goals as goal

pub returns-in-Err-clause-shares : goal.returns-in-Err-clause-shares
returns-in-Err-clause-shares c =
    (subst (λ x. Serves c.args.tenants.now c.args.body.now c.args.out.now.items x c.args.tenants.now) (sym c.write_small.ensures) (c.in-Err.ensures.refused c.args.out.now.items), c.abandon.ensures.clears, tt)

pub returns-in-Err-clause-on_way : goal.returns-in-Err-clause-on_way
returns-in-Err-clause-on_way c = c.abandon.ensures.on_way c.args.tenants.now c.requires.on_way

pub returns-in-Further-clause-shares : goal.returns-in-Further-clause-shares
returns-in-Further-clause-shares c = (refl, refl, inr (c.read_some.ensures.further c.args.tenants.now c.in-Ok.ensures.placed c.in-Further.is))

pub returns-in-Further-clause-on_way : goal.returns-in-Further-clause-on_way
returns-in-Further-clause-on_way c = read_on_way c.args.tenants.now c.args.tasks.now c.read_some.new.tasks c.read_some.ensures.same c.requires.on_way

pub returns-in-Further-clause-whole : goal.returns-in-Further-clause-whole
returns-in-Further-clause-whole c = λ b e. absurd (c.read_some.ensures.whole b c.in-Further.is)

pub share_request-requires-clause-on_way : goal.share_request-requires-clause-on_way
share_request-requires-clause-on_way c = read_on_way c.args.tenants.now c.args.tasks.now c.read_some.new.tasks c.read_some.ensures.same c.requires.on_way

pub share_request-requires-clause-free : goal.share_request-requires-clause-free
share_request-requires-clause-free c = held_behind c.places_are_served.ensures c.args.work.conn c.args.body.now c.args.tenants.now c.in-Ok.request c.args.tasks.now c.read_some.new.tasks c.in-Ok.ensures.placed c.read_some.ensures.same c.requires.free

pub returns-in-Over-clause-shares : goal.returns-in-Over-clause-shares
returns-in-Over-clause-shares c =
    shares_before c.share_request.result c.args.work.conn c.args.body.now c.args.tenants.now c.share_request.new.tenants c.args.tasks.now c.read_some.new.tasks c.share_request.new.tasks c.args.out.now.items c.share_request.new.out.items c.read_some.ensures.same
    c.read_some.ensures.others (c.share_request.ensures.shares c.args.body.now c.in-Ok.ensures.placed)

pub returns-in-Over-clause-whole : goal.returns-in-Over-clause-whole
returns-in-Over-clause-whole c = λ b e. c.share_request.ensures.whole b (task_same c.args.work.conn c.args.tasks.now c.read_some.new.tasks c.read_some.ensures.same ∙ e)

pub returns-in-Further-clause-little : goal.returns-in-Further-clause-little
returns-in-Further-clause-little c = inl (c.read_some.ensures.further c.args.tenants.now c.in-Ok.ensures.placed c.in-Further.is)

pub returns-in-Over-clause-little : goal.returns-in-Over-clause-little
returns-in-Over-clause-little c =
    body_spends c.share_request.result c.args.work.conn c.args.body.now c.args.tenants.now c.args.tasks.now c.read_some.new.tasks c.share_request.new.tasks c.args.work.units c.read_some.ensures.same
    (c.share_request.ensures.little c.args.body.now c.in-Ok.ensures.placed)
