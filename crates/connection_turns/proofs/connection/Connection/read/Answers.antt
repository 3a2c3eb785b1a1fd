use Rattle.connection_turns.proofs.Adding.{none_added}
use Rattle.connection_turns.proofs.Progress.{drained, progressed}
use Rattle.connection_turns.proofs.connection.Connection.read.Goals as goal

pub returns-clause-turn : goal.returns-clause-turn
returns-clause-turn g c = drained _ _ _ _ _ g.S.Wire.told (g.C.LoopCore.steps.seen c.feed-count.new.core) (g.C.LoopCore.steps.left c.args.conn c.feed-count.new.core) (record c.args.self.now { outbox = c.feed-count.new.outbox; socket = c.feed-count.new.wire; ready = c.feed-count.new.ready }) c.note_drained.new.self c.feed-count.new.wire.is_drained c.note_drained.ensures.drained (progressed _ _ _ _ _ _ _ _ _ c.feed-count.ensures.turned)

pub returns-clause-owed : goal.returns-clause-owed
returns-clause-owed g c =
    let t = c.feed-count.ensures.turned in
    rw (c.note_drained.ensures.outbox, t.line_is) (none_added c.args.self.now.outbox t.events t.few_answers)
