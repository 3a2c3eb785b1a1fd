use Rattle.std.proofs.Common.{None, Option, ap, inl, refl, rules, sym}
use Rattle.std.specs.Option.{option_map}
use Rattle.connection_turns.specs.declared.claim.Claim.{Claim}
use Rattle.open_connections.specs.Opened.{bytes_of}
use Rattle.open_connections.specs.Looping.{LetGo}
use Rattle.open_connections.proofs.Joined.{part_of, same_joined}
use Rattle.open_connections.proofs.Keeping.{one_changes, others_stand, others_then}
use Rattle.open_connections.proofs.Looping.{before_step, then_at_most}
use Rattle.open_connections.proofs.Steps.{gone_steps}
use Rattle.open_connections.proofs.Woken.{gone_woken, large_woken}
use Rattle.open_connections.proofs.open.Open.let_go.Goals as goal

pub returns-clause-lanes : goal.returns-clause-lanes
returns-clause-lanes g c =
    then_at_most g.C.LoopCore.steps (LetGo c.args.key) _ _ _ c.release.ensures.lanes (inl (gone_steps g.C.LoopCore.steps g.S.Wire.told c.release.new.self.budgets (bytes_of c.release.new.self) _ _ c.release.new.self.connections _ c.args.key c.in-Some.conn None c.in-Some.ensures.same c.in-Some-try_remove.ensures.updates refl (inl refl) c.disconnect.ensures.closed c.disconnect.ensures.others
    (same_joined c.release.new.self.connections _ c.args.key None c.in-Some-try_remove.ensures.updates c.release.new.self.budgets (sym (ap (λ (x : Option Claim). option_map part_of x) c.release.ensures.none)))))

pub returns-clause-closes : goal.returns-clause-closes
returns-clause-closes g c = λ o k.
    before_step g.C.LoopCore.steps (LetGo c.args.key) _ _ _ c.release.ensures.lanes (gone_steps g.C.LoopCore.steps g.S.Wire.told c.release.new.self.budgets (bytes_of c.release.new.self) _ _ c.release.new.self.connections _ c.args.key c.in-Some.conn None c.in-Some.ensures.same c.in-Some-try_remove.ensures.updates refl (inl refl) c.disconnect.ensures.closed c.disconnect.ensures.others
    (same_joined c.release.new.self.connections _ c.args.key None c.in-Some-try_remove.ensures.updates c.release.new.self.budgets (sym (ap (λ (x : Option Claim). option_map part_of x) c.release.ensures.none))))

pub returns-in_default-clause-woken : goal.returns-in_default-clause-woken
returns-in_default-clause-woken g c = large_woken _ _ _ _ c.args.self.now.connections c.args.key (search rules)

pub returns-clause-woken : goal.returns-clause-woken
returns-clause-woken g c = λ fact h. gone_woken _ _ _ _ c.release.new.self.connections _ c.args.key c.in-Some-try_remove.ensures.updates fact (c.release.ensures.woken fact h)

pub returns-clause-others : goal.returns-clause-others
returns-clause-others g c = others_then c.args.key _ _ _ (others_stand c.args.key _ _ c.release.ensures.ready) (one_changes c.args.key c.release.new.self _ _ c.in-Some-try_remove.ensures.updates tt)
