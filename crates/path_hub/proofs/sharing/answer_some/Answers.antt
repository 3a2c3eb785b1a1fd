use Rattle.std.proofs.Common.{sym, ap, ◌∙◌, refl}
use Rattle.wire_frames.specs.Frames.{front}
use Rattle.wire_frames.specs.NextFrame.{lent_as}
use Rattle.path_hub.proofs.Calls.{answered, taken_by}
use Rattle.path_hub.proofs.UnderWay.{first_charge}
use Rattle.path_hub.specs.declared.tasks.Advance.TheVariants as share
use Rattle.path_hub.proofs.Spending.{first_spends}
use Rattle.path_hub.proofs.sharing.answer_some.Goals as goal

pub returns-in-Replied-clause-shares : goal.returns-in-Replied-clause-shares
returns-in-Replied-clause-shares c =
    let open' = sym c.is_closed.ensures ∙ c.if-is_closed.false in
    let next = ap lent_as (sym c.in-Frame.is) ∙ c.front.ensures in
    let served = c.in-Replied.ensures.shares in (
      answered c.args.framer.now c.pass-in-Replied.new.self c.in-Frame.body.now c.in-Frame.body.now c.args.tenants.now c.serve_some.new.tenants c.args.out.now.items c.reserve-in-Frame.new.self.items c.serve_some.new.out.items
          open' next c.pass-in-Replied.ensures refl c.reserve-in-Frame.ensures.items served.0,
      served.1,
      first_charge c.in-Replied.charge c.in-Frame.body.now c.pass-in-Replied.new.self.waiting c.args.framer.now c.args.tenants.now
          (taken_by c.args.framer.now c.pass-in-Replied.new.self c.in-Frame.body.now (front c.args.framer.now.waiting) refl open' next c.pass-in-Replied.ensures).2 served.2,
    )

pub returns-in_ok-reserve-in-Fault-clause-on_way : goal.returns-in_ok-reserve-in-Fault-clause-on_way
returns-in_ok-reserve-in-Fault-clause-on_way c = c.abandon.ensures.on_way c.args.tenants.now c.requires.on_way

pub returns-in-Replied-clause-little : goal.returns-in-Replied-clause-little
returns-in-Replied-clause-little c = λ body behind e.
    first_spends (share.Replied c.in-Replied.charge) c.args.work.conn c.in-Frame.body.now body behind c.args.framer.now c.args.tenants.now c.args.tasks.now c.serve_some.new.tasks c.args.work.units (ap lent_as (sym c.in-Frame.is) ∙ c.front.ensures) e
    c.in-Replied.ensures.little
