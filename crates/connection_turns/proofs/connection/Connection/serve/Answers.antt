use Rattle.connection_turns.specs.Turning.{moment_of}
use Rattle.connection_turns.proofs.Adding.{some_added}
use Rattle.connection_turns.proofs.Progress.{drained, nearer, progressed}
use Rattle.connection_turns.proofs.connection.Connection.serve.Goals as goal

pub returns-clause-turn : goal.returns-clause-turn
returns-clause-turn g c = drained _ _ _ _ _ g.S.Wire.told (g.C.LoopCore.steps.seen c.turn-counts.new.core) (g.C.LoopCore.steps.left c.args.conn c.turn-counts.new.core) (record c.args.self.now { outbox = c.turn-counts.new.outbox; socket = c.turn-counts.new.wire; ready = c.turn-counts.new.ready }) c.note_drained.new.self c.turn-counts.new.wire.is_drained c.note_drained.ensures.drained (progressed _ _ _ _ _ _ _ _ _ c.turn-counts.ensures.turned)

pub returns-clause-owed : goal.returns-clause-owed
returns-clause-owed g c =
    let t = c.turn-counts.ensures.turned in
    rw (c.note_drained.ensures.outbox, t.line_is) (some_added (g.C.LoopCore.steps.takes c.args.conn) (g.C.LoopCore.steps.answers c.args.conn) c.args.self.now.outbox t.events (g.C.LoopCore.steps.seen c.args.core.now) (g.C.LoopCore.steps.seen c.turn-counts.new.core) t.core_is)

pub returns-clause-advances : goal.returns-clause-advances
returns-clause-advances g c can held =
    nearer _ _ (moment_of g.S.Wire.told (g.C.LoopCore.steps.seen c.args.core.now) (g.C.LoopCore.steps.left c.args.conn c.args.core.now) c.args.self.now) g.S.Wire.told (g.C.LoopCore.steps.seen c.turn-counts.new.core) (g.C.LoopCore.steps.left c.args.conn c.turn-counts.new.core) (record c.args.self.now { outbox = c.turn-counts.new.outbox; socket = c.turn-counts.new.wire; ready = c.turn-counts.new.ready }) c.note_drained.new.self c.turn-counts.new.wire.is_drained c.note_drained.ensures.drained (c.turn-counts.ensures.advances can held)
