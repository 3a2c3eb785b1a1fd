use Rattle.std.proofs.Common.{subst}
use Rattle.open_connections.specs.Looping.{DoesAtMost, LetGo}
use Rattle.open_connections.specs.Opened.{lanes_of}
use Rattle.event_loop.proofs.Looping.{then_at_most}
use Rattle.event_loop.proofs.rounds.Rounds.tend.Goals as goal
use Rattle.event_loop.proofs.rounds.Rounds.tend.Goals.{then-not-rests, else-not-rests}

pub returns-clause-lanes : goal.returns-clause-lanes
returns-clause-lanes g c =
    let s = g.C.LoopCore.steps in
    let told = g.S.Stream.Wire.told in
    elim c.if-not-rests.branch [
      | then-not-rests w ↦ then_at_most c.steps_join.ensures (LetGo c.args.key) _ _ _ w.note_report.ensures.lanes
          (subst (λ it. DoesAtMost s (LetGo c.args.key) (lanes_of s told it.opened) (lanes_of s told c.drain.new.self.opened)) w.self-is c.drain.ensures.lanes)
      | else-not-rests w ↦ subst (λ it. DoesAtMost s (LetGo c.args.key) (lanes_of s told it.opened) (lanes_of s told c.drain.new.self.opened)) w.self-is c.drain.ensures.lanes
    ]
