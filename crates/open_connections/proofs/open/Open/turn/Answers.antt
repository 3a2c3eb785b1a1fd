use Rattle.std.proofs.Common.{◌∙◌}
use Rattle.slab.specs.Slab.{get}
use Rattle.open_connections.specs.Turns.{held_at}
use Rattle.open_connections.proofs.Looping.{then_turn, turn_without}
use Rattle.open_connections.proofs.Turns.{done_at, left_at}
use Rattle.open_connections.proofs.Keeping.{covered_then, open_alike, others_stand, others_then}
use Rattle.open_connections.proofs.open.Open.turn.Goals as goal

pub returns-in-Ok-clause-lanes : goal.returns-in-Ok-clause-lanes
returns-in-Ok-clause-lanes g c = then_turn g.C.LoopCore.steps c.args.key _ _ _ c.prepare.ensures.lanes c.work.ensures.lanes

pub returns-in-Ok-clause-given : goal.returns-in-Ok-clause-given
returns-in-Ok-clause-given g c =
    done_at g.C.LoopCore.steps g.S.Wire.told g.C.LoopCore.waits _ (held_at g.C.LoopCore.waits g.C.LoopCore.longs c.args.key c.prepare.new.self) c.args.key _ c.args.self.now c.prepare.new.self c.work.new.self (get c.args.self.now.connections c.args.key) (get c.prepare.new.self.connections c.args.key) c.prepare.ensures.lanes c.prepare.ensures.core c.in-Ok.ensures.held (c.prepare.ensures.ready.at c.args.key) c.in-Ok.ensures.plan
    (λ e. covered_then g.C.LoopCore.steps c.args.key c.args.self.now c.prepare.new.self c.work.new.self c.work.ensures.claim (c.in-Ok.ensures.covered e)) c.work.ensures.given

pub returns-in-Err-clause-lanes : goal.returns-in-Err-clause-lanes
returns-in-Err-clause-lanes g c = turn_without g.C.LoopCore.steps c.args.key _ _ c.prepare.ensures.lanes

pub returns-in-Err-clause-given : goal.returns-in-Err-clause-given
returns-in-Err-clause-given g c = left_at g.C.LoopCore.steps g.S.Wire.told g.C.LoopCore.waits c.args.key _ c.args.self.now c.prepare.new.self (get c.args.self.now.connections c.args.key) (c.prepare.ensures.lanes, c.prepare.ensures.core) c.prepare.ensures.ready c.in-Err.ensures.plan c.in-Err.ensures.short

pub returns-in-Ok-clause-others : goal.returns-in-Ok-clause-others
returns-in-Ok-clause-others g c = others_then c.args.key _ _ _ (others_stand c.args.key _ _ c.prepare.ensures.ready) c.work.ensures.others

pub returns-in-Err-clause-others : goal.returns-in-Err-clause-others
returns-in-Err-clause-others g c = others_stand c.args.key _ _ c.prepare.ensures.ready

pub returns-in-Ok-clause-bytes : goal.returns-in-Ok-clause-bytes
returns-in-Ok-clause-bytes g c = λ e. c.work.ensures.bytes e ∙ c.prepare.ensures.lanes.bytes_stay

pub returns-in-Ok-clause-there : goal.returns-in-Ok-clause-there
returns-in-Ok-clause-there g c = c.work.ensures.there ∙ open_alike c.args.key c.args.self.now c.prepare.new.self c.prepare.ensures.ready

pub returns-in-Ok-clause-woken : goal.returns-in-Ok-clause-woken
returns-in-Ok-clause-woken g c = λ fact h. c.work.ensures.woken fact (c.prepare.ensures.woken fact h)

pub returns-then-is_lost-clause-lanes : goal.returns-then-is_lost-clause-lanes
returns-then-is_lost-clause-lanes g c = turn_without g.C.LoopCore.steps c.args.key _ _ c.take_off.ensures.lanes

pub returns-then-is_lost-clause-idle : goal.returns-then-is_lost-clause-idle
returns-then-is_lost-clause-idle g c = λ e. (c.take_off.ensures.lanes, c.take_off.ensures.core)
