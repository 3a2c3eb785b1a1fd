use Rattle.wire_frames.proofs.Written.{read_is_written}
use Rattle.wire_frames.proofs.requests.read_request.Goals as goal

pub returns-clause-written : goal.returns-clause-written
returns-clause-written c = λ bytes. read_is_written c.read.result c.args.body.now c.read.ensures bytes
