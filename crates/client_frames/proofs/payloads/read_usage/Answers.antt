use Rattle.std.proofs.Common.{◌≡◌, Option, Some, None, sym}
use Rattle.std.specs.Option.{option_map, IfNone}
use Rattle.client_frames.specs.Payloads.{AreCounts, usage_payload}
use Rattle.client_frames.specs.Readings.{counts_of, usage_at}
use Rattle.client_frames.specs.declared.payloads.Usage.{Usage}
use Rattle.std.proofs.Common.{ℕ, List, ◌≢◌}
use Rattle.client_frames.proofs.Back.{no_usage}
use Rattle.client_frames.proofs.payloads.read_usage.Goals as goal

none_by : (payload : List ℕ) (o : Option Usage) → option_map counts_of o ≡ usage_at payload → IfNone o ((c d b : ℕ) → AreCounts c d b → payload ≢ usage_payload c d b)
none_by payload None e = no_usage payload (sym e)
none_by payload (Some u) e = tt

pub returns-clause-none : goal.returns-clause-none
returns-clause-none c = none_by c.args.payload.now c.take_usage.result c.take_usage.ensures.read
