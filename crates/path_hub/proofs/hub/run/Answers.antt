use Rattle.std.proofs.Common.{refl, subst, inl, inr, ℕ, List}
use Rattle.tenant_map.specs.Tenancy.{Tenancy, AcceptsKeys, RefusesKeys}
use Rattle.request_replies.specs.Tenants.{fresh}
use Rattle.path_hub.proofs.Running.{so_far_more, so_far_all, stops_at}
use Rattle.path_hub.proofs.hub.run.Goals as goal

accepted : (keys : List (List ℕ)) (t : Tenancy) → AcceptsKeys keys t → AcceptsKeys keys (fresh keys)
accepted keys t a = record { some = a.some; few = a.few; distinct = a.distinct; keys_are = refl; maps_are = refl }

pub returns-in-Err-Memory : goal.returns-in-Err-Memory
returns-in-Err-Memory c = inl (subst (λ e. RefusesKeys c.args.keys.now e) c.in-Err-Memory.field-0-is c.in-Err-Memory.ensures.refused, refl)

pub returns-in-Err-apply : goal.returns-in-Err-apply
returns-in-Err-apply c = inr (
  accepted c.args.keys.now c.in-Ok.hub.tenants c.in-Ok.ensures.accepted,
  stops_at c.tenants_are_apart.ensures c.args.keys.now c.args.events.now c.loop-event.event-index c.event-item.result (fresh c.args.keys.now) c.loop-event.hub.tenants c.apply.new.self.tenants c.args.out.now.items c.loop-event.out.items c.apply.new.out.items c.loop-event.hub.sessions
      c.loop-event-test.true c.event-item.is refl c.loop-event.invariant c.in-Err-apply.ensures.some,
)

pub loop-event-preserved : goal.loop-event-preserved
loop-event-preserved c = so_far_more c.args.events.now c.loop-event.event-index c.event-item.result (fresh c.args.keys.now) c.loop-event.hub.tenants c.apply.new.self.tenants c.args.out.now.items c.loop-event.out.items c.apply.new.out.items c.loop-event.hub.sessions c.apply.new.self.sessions
    c.loop-event-test.true c.event-item.is c.loop-event.invariant c.in-Ok-apply.ensures.ok

pub returns : goal.returns
returns c = (accepted c.args.keys.now c.in-Ok.hub.tenants c.in-Ok.ensures.accepted, so_far_all c.tenants_are_apart.ensures c.args.keys.now c.args.events.now c.loop-event.event-index (fresh c.args.keys.now) c.loop-event.hub.tenants c.args.out.now.items c.loop-event.out.items c.loop-event.hub.sessions c.loop-event-test.false refl c.loop-event.invariant)
