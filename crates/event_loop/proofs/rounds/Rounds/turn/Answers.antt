use Rattle.std.proofs.Common.{◌≡◌, ℕ, Bool, true, false, ◌∙◌, refl, inl, inr}
use Rattle.std.specs.Prelude.{IsTrue, IsFalse, Option}
use Rattle.outbox.specs.Traffic.{Traffic}
use Rattle.connection_turns.specs.Cores.{CoreSteps}
use Rattle.open_connections.specs.declared.open.Open.{Open}
use Rattle.open_connections.specs.Looping.{Stays}
use Rattle.open_connections.specs.Opened.{bytes_of, lanes_of}
use Rattle.event_loop.proofs.Looping.{turn_then}
use Rattle.event_loop.proofs.Serving.{if_small}
use Rattle.event_loop.specs.Clocked.{IsNoted, NotesMoved}
use Rattle.event_loop.proofs.rounds.Rounds.turn.Goals as goal

noted : {S C T : Type 0} (s : CoreSteps C) (told : S → Option Traffic) (moved : Bool) (key : ℕ) (a b c : Open S C T) (counted : ℕ × ℕ) (second : ℕ)
    → (IsFalse moved → bytes_of b ≡ bytes_of a) → Stays (lanes_of s told b) (lanes_of s told c) → (IsTrue moved → IsNoted key c counted second) → NotesMoved key a c counted second
noted {S} {C} {T} s told true key a b c counted second h k n = inr (n refl)
noted {S} {C} {T} s told false key a b c counted second h k n = inl (k.bytes_stay ∙ h refl)

pub returns-clause-lanes : goal.returns-clause-lanes
returns-clause-lanes g c = turn_then c.steps_join.ensures c.args.key _ _ _ c.turn-outcome.ensures.lanes c.mark_moved.ensures.lanes

pub returns-clause-clock : goal.returns-clause-clock
returns-clause-clock g c = noted g.C.LoopCore.steps _ c.turn-outcome.result.1 c.args.key c.args.self.now.opened c.turn-outcome.new.self c.mark_moved.new.self.opened _ _ c.turn-outcome.ensures.bytes c.mark_moved.ensures.lanes c.mark_moved.ensures.clock

pub returns-clause-gets : goal.returns-clause-gets
returns-clause-gets g c = λ k. (
  c.turn-outcome.new.self,
  record {
    gets = if_small _ c.args.key _ c.turn-outcome.ensures.given k;
    lost = λ h. (c.turn-outcome.ensures.lost h, c.turn-outcome.ensures.idle h);
  },
  c.mark_moved.ensures.lanes,
  c.mark_moved.ensures.ready,
  c.mark_moved.ensures.core,
)

pub returns-clause-others : goal.returns-clause-others
returns-clause-others g c = c.states_join.ensures.apart c.args.key _ _ _ c.turn-outcome.ensures.others (c.states_join.ensures.others c.args.key _ _ c.mark_moved.ensures.ready)
