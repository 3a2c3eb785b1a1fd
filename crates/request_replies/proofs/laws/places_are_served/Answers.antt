use Rattle.wire_frames.specs.Requests.{Asks}
use Rattle.request_replies.proofs.Steps.{gives_memory, query_may_want, serves_command, shape_at}
use Rattle.request_replies.proofs.laws.places_are_served.Goals as goal

pub returns : goal.returns
returns c = record {
  whole = λ body number key asked h. (let s = shape_at body (Asks number key asked) h in (s.0, s.2));
  served = serves_command;
  refused = gives_memory;
  wanted = query_may_want;
}
