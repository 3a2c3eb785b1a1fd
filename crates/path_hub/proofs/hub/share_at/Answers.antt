use Rattle.std.proofs.Common.{◌≡◌, Some, sym, ap, is_some}
use Rattle.path_hub.specs.Sessions.{session, Sets}
use Rattle.path_hub.proofs.Calls.{kept, refused_step, due_there}
use Rattle.path_hub.proofs.UnderWay.{shares}
use Rattle.path_hub.proofs.Spending.{spends_at}
use Rattle.path_hub.proofs.hub.share_at.Goals as goal

pub returns-in-Some-clause-shares : goal.returns-in-Some-clause-shares
returns-in-Some-clause-shares c =
    let h : session c.args.work.conn c.args.sessions.now.entries ≡ Some c.in-Some.framer.now = sym c.in-Some.ensures.value in
    let lender = c.get_mut.follows.lender c.answer_some.new.framer in
    let holds = c.get_mut.follows.holds c.answer_some.new.framer in
    let sets : Sets c.args.work.conn (Some c.answer_some.new.framer) c.args.sessions.now.entries lender.entries = (holds.3 (ap is_some h)).0 in
    shares c.splits_from_the_front.ensures c.args.work.conn c.args.sessions.now.entries lender.entries c.args.tenants.now c.answer_some.new.tenants c.args.tasks.now c.answer_some.new.tasks c.in-Some.framer.now c.answer_some.new.framer c.args.out.now.items c.answer_some.new.out.items c.answer_some.result
    h sets (λ e. kept c.args.work.conn c.args.sessions.now.entries lender.entries c.in-Some.framer.now c.answer_some.new.framer h e holds.0) c.answer_some.ensures.shares

pub returns-in-Some-clause-unchanged : goal.returns-in-Some-clause-unchanged
returns-in-Some-clause-unchanged c =
    let h : session c.args.work.conn c.args.sessions.now.entries ≡ Some c.in-Some.framer.now = sym c.in-Some.ensures.value in
    let lender = c.get_mut.follows.lender c.answer_some.new.framer in
    let holds = c.get_mut.follows.holds c.answer_some.new.framer in
    refused_step c.args.sessions.now.entries lender.entries c.args.tenants.now c.answer_some.new.tenants c.in-Some.framer.now c.answer_some.new.framer c.answer_some.result
    (λ e. kept c.args.work.conn c.args.sessions.now.entries lender.entries c.in-Some.framer.now c.answer_some.new.framer h e holds.0) c.answer_some.ensures.same_framer c.answer_some.ensures.same_tenants

pub returns-in-Some-clause-due : goal.returns-in-Some-clause-due
returns-in-Some-clause-due c = due_there c.args.work.conn c.args.sessions.now.entries c.args.tenants.now c.in-Some.framer.now c.answer_some.result (sym c.in-Some.ensures.value) c.answer_some.ensures.due

pub returns-in-Some-clause-little : goal.returns-in-Some-clause-little
returns-in-Some-clause-little c = spends_at c.args.work.conn c.args.sessions.now.entries c.args.tenants.now c.args.tasks.now c.answer_some.new.tasks c.args.work.units c.in-Some.framer.now c.answer_some.result (sym c.in-Some.ensures.value) c.answer_some.ensures.little
