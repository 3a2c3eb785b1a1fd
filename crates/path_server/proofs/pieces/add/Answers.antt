use Rattle.path_server.proofs.Breaking.{at_err, stops_at_once, stops_before, stops_before_both, pair_stops, pair_written}
use Rattle.path_server.proofs.pieces.add.Goals as goal

pub returns-in_err-write_held-clause-front : goal.returns-in_err-write_held-clause-front
returns-in_err-write_held-clause-front g c = at_err c.from_residual.result (λ more n. stops_before _ _ _ _ c.in_err-write_held.ensures.short)

pub returns-in_err-write_whole-clause-front : goal.returns-in_err-write_whole-clause-front
returns-in_err-write_whole-clause-front g c =
    at_err c.from_residual-in_err-write_whole.result (λ more n. stops_before_both _ _ more _ _ (pair_stops c.args.held.now.items c.args.bytes.now _ _ _ c.in_ok-write_held.ensures.written c.in_err-write_whole.ensures.short))

pub returns-then-bytes-ge-PIECE-clause-written : goal.returns-then-bytes-ge-PIECE-clause-written
returns-then-bytes-ge-PIECE-clause-written g c =
    rw c.in_ok-write_held.ensures.none (pair_written c.args.held.now.items c.args.bytes.now _ _ _ c.in_ok-write_held.ensures.written c.in_ok-write_whole.ensures.written)

pub returns-in_err-extend_from_slice-clause-front : goal.returns-in_err-extend_from_slice-clause-front
returns-in_err-extend_from_slice-clause-front g c = at_err c.from_residual-in_err-extend_from_slice.result (λ more n. stops_at_once _ _ _ n)

pub returns-in_err-write_held-2-clause-front : goal.returns-in_err-write_held-2-clause-front
returns-in_err-write_held-2-clause-front g c =
    at_err c.from_residual-in_err-write_held-2.result (λ more n. stops_before_both c.args.held.now.items c.args.bytes.now more _ _ (rw c.in_ok-extend_from_slice.ensures.items at c.in_err-write_held-2.ensures.short))
