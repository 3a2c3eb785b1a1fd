use Rattle.path_server.proofs.WholeScripts.{read_past_limit}
use Rattle.path_server.proofs.call_streams.read_call.Goals as goal

pub returns : goal.returns
returns g c = read_past_limit (λ v. v.items) c.read_past.result (g.R.Read.remaining c.args.reader) c.read_past.ensures.read
