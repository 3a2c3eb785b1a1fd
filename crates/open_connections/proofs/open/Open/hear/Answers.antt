use Rattle.std.proofs.Common.{◌∙◌, Option, ap, sym}
use Rattle.std.specs.Option.{option_map}
use Rattle.connection_turns.specs.declared.claim.Claim.{Claim}
use Rattle.open_connections.proofs.Joined.{part_of}
use Rattle.open_connections.proofs.Steps.{stays_at}
use Rattle.open_connections.proofs.open.Open.hear.Goals as goal

pub returns-in-Some-clause-lanes : goal.returns-in-Some-clause-lanes
returns-in-Some-clause-lanes g c = stays_at g.C.LoopCore.steps g.S.Wire.told _ _ _ c.args.self.now.connections c.args.report.key c.in-Some.connection.now c.note_report.new.self (sym c.in-Some.ensures.value) (λ e. c.note_report.ensures.due.1 ∙ e) c.note_report.ensures.line c.note_report.ensures.wire (ap (λ (x : Option Claim). option_map part_of x) c.note_report.ensures.claim)
