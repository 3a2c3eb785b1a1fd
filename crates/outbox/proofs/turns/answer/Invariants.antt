use Rattle.std.specs.Prelude.{◌≡◌, true, IsFalse, None, Option}
use Rattle.outbox.specs.Appends.{OthersKeep}
use Rattle.outbox.specs.Traffic.{Traffic}
use Rattle.outbox.specs.Turns.{Advances, Turned, here, can_answer}
use Rattle.outbox.proofs.turns.answer.Given as goal

-- what happened so far is a turn, what others have under way stays, and the first request came nearer to its reply
abbrev pub invariant-requests : goal.invariant-requests
invariant-requests g l = ((wire : Option Traffic) → Turned 0 l.counter (g.C.Core.takes l.conn) (g.C.Core.answers l.conn) (g.C.Core.idle l.conn) (g.C.Core.over l.conn) can_answer
    (here l.fn.outbox wire (g.C.Core.seen l.fn.core) (g.C.Core.left l.conn l.fn.core) l.fn.ready) (here l.outbox wire (g.C.Core.seen l.core) (g.C.Core.left l.conn l.core) l.ready))
    × OthersKeep g.C.Core.left l.conn l.fn.core l.core
    × (can_answer l.fn.ready l.fn.outbox ≡ true → IsFalse (g.C.Core.holds l.is_brief l.conn l.fn.core) → Advances (g.C.Core.takes l.conn) (g.C.Core.answers l.conn)
    (here l.fn.outbox None (g.C.Core.seen l.fn.core) (g.C.Core.left l.conn l.fn.core) l.fn.ready) (here l.outbox None (g.C.Core.seen l.core) (g.C.Core.left l.conn l.core) l.ready))
