use Rattle.std.proofs.lemmas.Result.{err_from_is_err_and}
use Rattle.event_loop.proofs.rounds.Rounds.put_off.Goals as goal

pub returns-in_err-put_off-clause-refused : goal.returns-in_err-put_off-clause-refused
returns-in_err-put_off-clause-refused g c = let p = err_from_is_err_and c.from_residual.result c.from_residual.ensures.1 in rw p.1 p.2
