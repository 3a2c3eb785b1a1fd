use Rattle.std.proofs.Common.{inl, inr, refl}
use Rattle.std.proofs.KnownBytes.{Keeps-refl}
use Rattle.path_server.proofs.Refusals.{text_refuses, memory_wanted}
use Rattle.path_server.proofs.streams.query_to.Goals as goal

pub returns-in-Err-clause-failed : goal.returns-in-Err-clause-failed
returns-in-Err-clause-failed g c =
    let refused = text_refuses c.args.query.now c.args.text.now c.in-Err.fault c.in-Err.ensures in
    (rw c.into.ensures refused, inl (Keeps-refl _))

pub returns-in-Err-find-clause-failed : goal.returns-in-Err-find-clause-failed
returns-in-Err-find-clause-failed g c = (rw c.in-Ok.ensures.0 at c.in-Err-find.ensures.refused, inl (Keeps-refl _))

pub returns-in-Ok-write_pieces-clause-answered : goal.returns-in-Ok-write_pieces-clause-answered
returns-in-Ok-write_pieces-clause-answered g c =
    (_, rw c.in-Ok.ensures.0 at c.in-Ok-find.ensures.answered, rw c.as_slice.ensures.value at c.in-Ok-write_pieces.ensures.written)

pub returns-in-Err-Memory-clause-failed : goal.returns-in-Err-Memory-clause-failed
returns-in-Err-Memory-clause-failed g c =
    let answered = rw c.in-Ok.ensures.0 at c.in-Ok-find.ensures.answered in
    (memory_wanted c.args.query.now c.args.text.now answered.tree answered.accepted, inr (refl, (_, answered, rw c.as_slice.ensures.value at c.in-Err-Memory.ensures.front)))

pub returns-clause-failed : goal.returns-clause-failed
returns-clause-failed g c = (_, rw c.in-Ok.ensures.0 at c.in-Ok-find.ensures.answered, rw c.as_slice.ensures.value at c.in-Err-Write.ensures.front)
