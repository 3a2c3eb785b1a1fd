use Rattle.std.proofs.Common.{◌∙◌, ◌≡◌, ℕ, Option, ap, false, subst, sym}
use Rattle.std.specs.Prelude.{IsTrue}
use Rattle.std.specs.Option.{option_map}
use Rattle.connection_turns.specs.declared.claim.Claim.{Claim}
use Rattle.socket_poll.specs.declared.system.Report.{Report}
use Rattle.open_connections.specs.Woken.{is_so, sparing}
use Rattle.open_connections.proofs.Joined.{part_of}
use Rattle.open_connections.proofs.Looping.{stays_then}
use Rattle.open_connections.proofs.Steps.{stays_at}
use Rattle.open_connections.proofs.Woken.{all_woken}
use Rattle.open_connections.proofs.open.Open.leave.Goals as goal

pub returns-in-Some-clause-woken : goal.returns-in-Some-clause-woken
returns-in-Some-clause-woken g c = λ fact h.
    let e : c.ended.result.key ≡ c.args.key = ap (λ (r : Report). r.key) c.ended.ensures in
    all_woken _ _ _ _ c.note_report.new.self.connections c.args.key c.in-Some.connection.now c.leave.new.self (sym c.in-Some.ensures.value) c.leave.ensures.due (c.leave.ensures.goes false) fact
    (c.note_report.ensures.woken fact (subst (λ (k : ℕ). IsTrue (is_so (sparing k fact) c.args.self.now)) (sym e) h))

pub returns-in-Some-clause-lanes : goal.returns-in-Some-clause-lanes
returns-in-Some-clause-lanes g c =
    stays_then _ _ _ c.note_report.ensures.lanes (stays_at g.C.LoopCore.steps g.S.Wire.told _ _ _ c.note_report.new.self.connections c.args.key c.in-Some.connection.now c.leave.new.self (sym c.in-Some.ensures.value) (λ e. c.leave.ensures.due.1 ∙ e) c.leave.ensures.line c.leave.ensures.wire (ap (λ (x : Option Claim). option_map part_of x) c.leave.ensures.claim))
