use Rattle.std.proofs.Common.{refl, rules}
use Rattle.outbox.proofs.Counting.{none_moved, written_moved}
use Rattle.outbox.proofs.turns.flush.Goals as goal

pub returns-then-not-can_write-clause-moved : goal.returns-then-not-can_write-clause-moved
returns-then-not-can_write-clause-moved g c = none_moved _ _ refl

pub returns-in-Bytes-clause-moved : goal.returns-in-Bytes-clause-moved
returns-in-Bytes-clause-moved g c = written_moved (g.W.Wire.told c.args.wire.now) (g.W.Wire.told c.write.new.self) c.in-Bytes.count _ (search rules) c.in-Bytes.ensures.0.within c.in-Bytes.ensures.1

pub returns-in-Blocked-clause-moved : goal.returns-in-Blocked-clause-moved
returns-in-Blocked-clause-moved g c = none_moved _ _ c.in-Blocked.ensures

pub returns-in-Failed-clause-moved : goal.returns-in-Failed-clause-moved
returns-in-Failed-clause-moved g c = none_moved _ _ c.in-Failed.ensures
