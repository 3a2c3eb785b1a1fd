use Rattle.connection_turns.proofs.Adding.{one_added}
use Rattle.connection_turns.proofs.Progress.{answered, progressed}
use Rattle.connection_turns.proofs.connection.Connection.answer.Goals as goal

pub returns-clause-turn : goal.returns-clause-turn
returns-clause-turn g c = answered _ _ _ _ _ (progressed _ _ _ _ _ _ _ _ _ c.reply.ensures.turned)

pub returns-clause-owed : goal.returns-clause-owed
returns-clause-owed g c =
    let t = c.reply.ensures.turned in
    rw t.line_is (one_added (g.C.LoopCore.steps.takes c.args.conn) (g.C.LoopCore.steps.answers c.args.conn) c.args.self.now.outbox t.events (g.C.LoopCore.steps.seen c.args.core.now) (g.C.LoopCore.steps.seen c.reply.new.core) t.core_is t.few_pieces t.few_answers)
