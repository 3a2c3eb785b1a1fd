use Rattle.std.proofs.Common.{ap, refl, rules, sym, take}
use Rattle.outbox.specs.Turns.{here, can_read}
use Rattle.outbox.proofs.Counting.{none_moved, read_moved}
use Rattle.outbox.proofs.Single.{nothing, some_taken, took, declined, ended_now, failed_now, blocked_now}
use Rattle.outbox.proofs.turns.feed.Goals as goal

pub returns-then-not-can_read-clause-turned : goal.returns-then-not-can_read-clause-turned
returns-then-not-can_read-clause-turned g c = nothing 1 0 _ _ _ _ can_read (here c.args.outbox.now (g.W.Wire.told c.args.wire.now) (g.C.Core.seen c.args.core.now) (g.C.Core.left c.args.conn c.args.core.now) c.args.ready.now) (sym c.if-not-can_read.ensures)

pub returns-then-take-clause-turned : goal.returns-then-take-clause-turned
returns-then-take-clause-turned g c =
    took _ _ _ _ c.args.outbox.now (g.W.Wire.told c.args.wire.now) (g.W.Wire.told c.read.new.self) c.args.ready.now (g.C.Core.seen c.args.core.now) (g.C.Core.seen c.take.new.self) (g.C.Core.left c.args.conn c.args.core.now) (g.C.Core.left c.args.conn c.take.new.self) (take c.in-Bytes.count c.read.new.buffer)
    (sym c.if-not-can_read.ensures) (some_taken c.in-Bytes.count c.read.new.buffer c.in-Bytes.ensures.0.within (c.in-Bytes.ensures.0.some (search rules))) c.in-Bytes.ensures.1 c.if-take.ensures.taken c.take.ensures.works

pub returns-else-take-clause-turned : goal.returns-else-take-clause-turned
returns-else-take-clause-turned g c =
    declined _ _ _ _ c.args.outbox.now c.end.new.self (g.W.Wire.told c.args.wire.now) (g.W.Wire.told c.read.new.self) c.args.ready.now (g.C.Core.seen c.args.core.now) (g.C.Core.seen c.take.new.self) (g.C.Core.left c.args.conn c.args.core.now) (g.C.Core.left c.args.conn c.take.new.self) (take c.in-Bytes.count c.read.new.buffer)
    (sym c.if-not-can_read.ensures) c.end.ensures c.in-Bytes.ensures.1 (ap g.C.Core.seen c.if-take.ensures.taken) (ap (g.C.Core.left c.args.conn) c.if-take.ensures.taken)

pub returns-in-Ended-clause-turned : goal.returns-in-Ended-clause-turned
returns-in-Ended-clause-turned g c =
    ended_now _ _ _ _ c.args.outbox.now c.end-in-Ended.new.self (g.W.Wire.told c.args.wire.now) (g.W.Wire.told c.read.new.self) c.args.ready.now (g.C.Core.seen c.args.core.now) (g.C.Core.left c.args.conn c.args.core.now)
    (sym c.if-not-can_read.ensures) c.end-in-Ended.ensures c.in-Ended.ensures

pub returns-in-Blocked-clause-turned : goal.returns-in-Blocked-clause-turned
returns-in-Blocked-clause-turned g c =
    blocked_now _ _ _ _ c.args.outbox.now (g.W.Wire.told c.args.wire.now) (g.W.Wire.told c.read.new.self) c.args.ready.now (g.C.Core.seen c.args.core.now) (g.C.Core.left c.args.conn c.args.core.now)
    (sym c.if-not-can_read.ensures) c.in-Blocked.ensures

pub returns-in-Failed-clause-turned : goal.returns-in-Failed-clause-turned
returns-in-Failed-clause-turned g c =
    failed_now _ _ _ _ c.args.outbox.now c.fail.new.self (g.W.Wire.told c.args.wire.now) (g.W.Wire.told c.read.new.self) c.args.ready.now (g.C.Core.seen c.args.core.now) (g.C.Core.left c.args.conn c.args.core.now)
    (sym c.if-not-can_read.ensures) c.fail.ensures c.in-Failed.ensures

pub returns-then-not-can_read-clause-moved : goal.returns-then-not-can_read-clause-moved
returns-then-not-can_read-clause-moved g c = none_moved _ _ refl

pub returns-then-take-clause-moved : goal.returns-then-take-clause-moved
returns-then-take-clause-moved g c = read_moved (g.W.Wire.told c.args.wire.now) (g.W.Wire.told c.read.new.self) c.in-Bytes.count c.read.new.buffer (search rules) c.in-Bytes.ensures.0.within c.in-Bytes.ensures.1

pub returns-else-take-clause-moved : goal.returns-else-take-clause-moved
returns-else-take-clause-moved g c = read_moved (g.W.Wire.told c.args.wire.now) (g.W.Wire.told c.read.new.self) c.in-Bytes.count c.read.new.buffer (search rules) c.in-Bytes.ensures.0.within c.in-Bytes.ensures.1

pub returns-in-Ended-clause-moved : goal.returns-in-Ended-clause-moved
returns-in-Ended-clause-moved g c = none_moved _ _ c.in-Ended.ensures

pub returns-in-Blocked-clause-moved : goal.returns-in-Blocked-clause-moved
returns-in-Blocked-clause-moved g c = none_moved _ _ c.in-Blocked.ensures

pub returns-in-Failed-clause-moved : goal.returns-in-Failed-clause-moved
returns-in-Failed-clause-moved g c = none_moved _ _ c.in-Failed.ensures
