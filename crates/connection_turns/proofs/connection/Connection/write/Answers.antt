use Rattle.connection_turns.proofs.Adding.{less_owed}
use Rattle.connection_turns.proofs.connection.Connection.write.Goals as goal

pub returns-clause-owed : goal.returns-clause-owed
returns-clause-owed g c = less_owed _ _ _ _ _ _ c.flush.ensures.flushes
