use Rattle.path_server.proofs.WholeTexts.{answered_stream, failed_stream}
use Rattle.path_server.proofs.streams.query_stream.Goals as goal

pub returns-clause-answered : goal.returns-clause-answered
returns-clause-answered g c = answered_stream c.args.query.now c.in-Ok.text.items _ _ _ c.query_to.result c.in-Ok.ensures.read (rw c.as_slice.ensures.value at c.query_to.ensures.answered)

pub returns-clause-failed : goal.returns-clause-failed
returns-clause-failed g c = failed_stream c.args.query.now c.in-Ok.text.items _ _ _ c.query_to.result c.in-Ok.ensures.read (rw c.as_slice.ensures.value at c.query_to.ensures.failed)
