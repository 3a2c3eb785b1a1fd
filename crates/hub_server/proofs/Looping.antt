-- The steps of a loop as the acts that a law speaks of.
use Rattle.std.proofs.Common.{◌≡◌, ℕ, Bool, true, false, List, [], ◌∷◌, ◌++◌, append_assoc, Option, Some, None, sym, ap, ◌∙◌, subst, refl, inl, inr}
use Rattle.std.specs.Prelude.{◌==◌, ◌≢◌, map, if◌then◌else◌}
use Rattle.std.proofs.lemmas.Bool.{cases_Bool, eqb-true, eqb-false}
use Rattle.std.proofs.lemmas.List.{map-append}
use Rattle.outbox.specs.Lines.{Line, Event, Readable, Declined, Answered, Writable, Ends, Fails, Worked, after, fresh, run, read, sent, lost}
use Rattle.outbox.specs.Traffic.{Traffic, moved}
use Rattle.outbox.specs.Turns.{DoesAll}
use Rattle.hub_core.specs.Answering as listen
use Rattle.hub_core.specs.Acts as told
use Rattle.hub_core.specs.Acts.{Act, Opened, Turned, Closed, Drained, changed, lines_after, all_lines_after, told_in, events_of, IsKept}
use Rattle.hub_core.specs.Wires.{Moves, AllMove, Moment, WiresShow}
use Rattle.hub_server.specs.Measuring.{Measured, takes, Answers, hub_steps}
use Rattle.hub_core.specs.Served.{IsServed, SessionIn, Serves, TurnsAreServed}
use Rattle.path_hub.specs.HubState.{HubState}
use Rattle.path_hub.specs.Items.{Item}
use Rattle.path_hub.specs.Runs.{Sent as Reply}
use Rattle.path_hub.specs.Serving.{items_in}
use Rattle.connection_turns.specs.Turning.{TakesTurn}
use Rattle.open_connections.specs.Looping as loop
use Rattle.open_connections.specs.Looping.{Lanes, Step, TakenIn, HasTurn, LetGo, OthersStay, Does, DoesEach, DoesSome}
use Rattle.hub_server.specs.Looping.{Extends, IsKeptSince, ActsOf, AllHappen, IsAnswered, Sessions, StepsAreServed, AreServed, LoopIsServed, JoinsRounds, step_of}

picked : (b : Bool) (x y : Line) → b ≡ true → (if b then x else y) ≡ x
picked true x y e = refl
picked false x y e = absurd cc

passed : (b : Bool) (x y : Line) → b ≡ false → (if b then x else y) ≡ y
passed true x y e = absurd cc
passed false x y e = refl

-- lines of which one is set extend those of which it is set
set_extends : (kept : ℕ → Line) (old new : Lanes Measured) (conn : ℕ) (line : Line) → Extends kept old.lines → new.lines conn ≡ Some line → OthersStay conn old new → Extends (changed kept conn line) new.lines
set_extends kept old new conn line same at others q found e = elim (cases_Bool (q == conn)) [
  | inl h ↦ let k : q ≡ conn = eqb-true q conn h in let l : new.lines q ≡ Some line = ap new.lines k ∙ at in let m : line ≡ found = cc in picked (q == conn) line (kept q) h ∙ m
  | inr h ↦ passed (q == conn) line (kept q) h ∙ same q found (sym (others.lines_stay q (eqb-false q conn h)) ∙ e)
]

-- one that is served where another is gone was served before
not_gone : (old new : Lanes Measured) (conn q : ℕ) (line : Line) → new.lines conn ≡ None → OthersStay conn old new → new.lines q ≡ Some line → (q ≢ conn) × (old.lines q ≡ Some line)
not_gone old new conn q line at others e = elim (cases_Bool (q == conn)) [
  | inl h ↦ let l : new.lines q ≡ None = ap new.lines (eqb-true q conn h) ∙ at in absurd cc
  | inr h ↦ (eqb-false q conn h, sym (others.lines_stay q (eqb-false q conn h)) ∙ e)
]

one_act : (step : Step) (lines : ℕ → Line) (old new : Lanes Measured) → Extends lines old.lines → Does hub_steps step old new → ActsOf (step ∷ []) lines old new
one_act (TakenIn conn) lines old new same d = record {
  acts = Opened conn ∷ [];
  steps_are = refl;
  happen = (new.core, d.opens, refl);
  move = (new.wires, (d.is_unused, d.others.wires_stay), λ q. refl);
  lines_are = set_extends lines old new conn fresh same d.is_fresh d.others;
  kept = λ q line e. elim (cases_Bool (q == conn)) [
    | inl h ↦ inr ([], [], ap (λ (c : ℕ). Opened c ∷ []) (sym (eqb-true q conn h)), tt)
    | inr h ↦ let k : q ≢ conn = eqb-false q conn h in inl (line, sym (d.others.lines_stay q k) ∙ e, (k, tt))
  ];
}
one_act (HasTurn conn) lines old new same d =
    let t : TakesTurn (takes conn) (Answers conn) d.line (old.wires conn) old.core d.line' (new.wires conn) new.core = d.takes_turn in
    let line : Line = run (lines conn) t.events in
    let was : lines conn ≡ d.line = same conn d.line d.was in
    let at : new.lines conn ≡ Some line = d.is ∙ ap (λ (l : Line). Some l) (t.line_is ∙ ap (λ (l : Line). run l t.events) (sym was)) in
    record {
      acts = Turned conn t.events ∷ [];
      steps_are = refl;
      happen = (new.core, subst (λ (l : Line). DoesAll (takes conn) (Answers conn) l t.events old.core new.core) (sym was) t.core_is, refl);
      move = (new.wires, (t.wire_is ∙ ap (λ (l : Line). moved (read l t.events) (sent l t.events) (old.wires conn)) (sym was), d.others.wires_stay), λ q. refl);
      lines_are = set_extends lines old new conn line same at d.others;
      kept = λ q l e. elim (cases_Bool (q == conn)) [
        | inl h ↦ inl (d.line, ap old.lines (eqb-true q conn h) ∙ d.was, (tt, tt))
        | inr h ↦ inl (l, sym (d.others.lines_stay q (eqb-false q conn h)) ∙ e, (tt, tt))
      ];
    }
one_act (LetGo conn) lines old new same d = record {
  acts = Closed conn ∷ [];
  steps_are = refl;
  happen = (new.core, d.closes, refl);
  move = (new.wires, d.others.wires_stay, λ q. refl);
  lines_are = λ q line e. same q line (not_gone old new conn q line d.is_gone d.others e).1;
  kept = λ q line e. let k = not_gone old new conn q line d.is_gone d.others e in inl (line, k.1, (k.0, tt));
}
one_act (loop.Drained conn) lines old new same d = record {
  acts = Drained conn ∷ [];
  steps_are = refl;
  happen = (new.core, d.core_stays, refl);
  move = (new.wires, d.others.wires_stay, λ q. refl);
  lines_are = λ q line e. same q line (not_gone old new conn q line d.is_gone d.others e).1;
  kept = λ q line e. let k = not_gone old new conn q line d.is_gone d.others e in inl (line, k.1, (k.0, tt));
}

-- acts behind acts
lines_on : (lines : ℕ → Line) (xs ys : List Act) → all_lines_after lines (xs ++ ys) ≡ all_lines_after (all_lines_after lines xs) ys
lines_on lines [] ys = refl
lines_on lines (x ∷ xs) ys = lines_on (lines_after lines x) xs ys

happen_on : (lines : ℕ → Line) (xs ys : List Act) (a b c : Measured) → AllHappen lines xs a b → AllHappen (all_lines_after lines xs) ys b c → AllHappen lines (xs ++ ys) a c
happen_on lines [] ys a b c h k = subst (λ (m : Measured). AllHappen lines ys m c) h k
happen_on lines (x ∷ xs) ys a b c h k = (h.0, h.1, happen_on (lines_after lines x) xs ys h.0 b c h.2 k)

moves_from : (lines : ℕ → Line) (x : Act) (a b c : ℕ → Option Traffic) → ((q : ℕ) → b q ≡ a q) → Moves lines x b c → Moves lines x a c
moves_from lines (Opened conn) a b c same m = (m.0, λ q k. m.1 q k ∙ same q)
moves_from lines (Turned conn es) a b c same m = (m.0 ∙ ap (λ (w : Option Traffic). moved (read (lines conn) es) (sent (lines conn) es) w) (same conn), λ q k. m.1 q k ∙ same q)
moves_from lines (Closed conn) a b c same m = λ q k. m q k ∙ same q
moves_from lines (Drained conn) a b c same m = λ q k. m q k ∙ same q

move_on : (lines : ℕ → Line) (xs ys : List Act) (a b c : ℕ → Option Traffic) → AllMove lines xs a b → AllMove (all_lines_after lines xs) ys b c → AllMove lines (xs ++ ys) a c
move_on lines [] [] a b c h k = λ q. k q ∙ h q
move_on lines [] (y ∷ ys) a b c h k = (k.0, moves_from lines y a b k.0 h k.1, k.2)
move_on lines (x ∷ xs) ys a b c h k = (h.0, h.1, move_on (lines_after lines x) xs ys h.0 b c h.2 k)

keeps : (q : ℕ) (xs ys : List Act) → IsKept q xs → IsKept q ys → IsKept q (xs ++ ys)
keeps q [] ys h k = k
keeps q (x ∷ xs) ys h k = (h.0, keeps q xs ys h.1 k)

kept_on : (q : ℕ) (xs ys : List Act) (old mid : Option Line) → ((line : Line) → mid ≡ Some line → IsKeptSince q xs old) → IsKeptSince q ys mid → IsKeptSince q (xs ++ ys) old
kept_on q xs ys old mid f g = elim g [
  | inl h ↦ elim (f h.0 h.1) [
    | inl k ↦ inl (k.0, k.1, keeps q xs ys k.2 h.2)
    | inr k ↦ inr (k.0, k.1 ++ ys, ap (λ (zs : List Act). zs ++ ys) k.2 ∙ append_assoc k.0 (Opened q ∷ k.1) ys, keeps q k.1 ys k.3 h.2)
  ]
  | inr h ↦ inr (xs ++ h.0, h.1, ap (λ (zs : List Act). xs ++ zs) h.2 ∙ sym (append_assoc xs h.0 (Opened q ∷ h.1)), h.3)
]

acts_on : (steps more : List Step) (lines : ℕ → Line) (a b c : Lanes Measured) (f : ActsOf steps lines a b) → ActsOf more (all_lines_after lines f.acts) b c → ActsOf (steps ++ more) lines a c
acts_on steps more lines a b c f g = record {
  acts = f.acts ++ g.acts;
  steps_are = map-append step_of f.acts g.acts ∙ ap (λ (xs : List Step). xs ++ map step_of g.acts) f.steps_are ∙ ap (λ (xs : List Step). steps ++ xs) g.steps_are;
  happen = happen_on lines f.acts g.acts a.core b.core c.core f.happen g.happen;
  move = move_on lines f.acts g.acts a.wires b.wires c.wires f.move g.move;
  lines_are = subst (λ (all : ℕ → Line). Extends all c.lines) (sym (lines_on lines f.acts g.acts)) g.lines_are;
  kept = λ q line e. kept_on q f.acts g.acts (a.lines q) (b.lines q) (f.kept q) (g.kept q line e);
}

acts_of : (steps : List Step) (lines : ℕ → Line) (old new : Lanes Measured) → Extends lines old.lines → DoesEach hub_steps steps old new → ActsOf steps lines old new
acts_of [] lines old new same d = record {
  acts = [];
  steps_are = refl;
  happen = d.core_stays;
  move = d.wires_stay;
  lines_are = λ q line e. same q line (sym (d.lines_stay q) ∙ e);
  kept = λ q line e. inl (line, sym (d.lines_stay q) ∙ e, tt);
}
acts_of (step ∷ steps) lines old new same d =
    let f : ActsOf (step ∷ []) lines old d.0 = one_act step lines old d.0 same d.1 in
    acts_on (step ∷ []) steps lines old d.0 new f (acts_of steps (all_lines_after lines f.acts) d.0 new f.lines_are d.2)

-- without the counts, a hub does the same
hub_does : (conn : ℕ) (line : Line) (es : List Event) (old new : Measured) → DoesAll (takes conn) (Answers conn) line es old new → DoesAll (listen.takes conn) (listen.Answers conn) line es old.hub new.hub
hub_does conn line [] old new d = ap (λ (m : Measured). m.hub) d
hub_does conn line (Readable piece ∷ es) old new d = (d.0.hub, (d.1.0, d.1.1.0), hub_does conn (after line (Readable piece)) es d.0 new d.2)
hub_does conn line (Declined piece ∷ es) old new d = (d.0.hub, (d.1.0, ap (λ (m : Measured). m.hub) d.1.1), hub_does conn (after line (Declined piece)) es d.0 new d.2)
hub_does conn line (Answered reply ∷ es) old new d = (d.0.hub, (d.1.0, d.1.1.answers), hub_does conn (after line (Answered reply)) es d.0 new d.2)
hub_does conn line (Writable room ∷ es) old new d = (d.0.hub, ap (λ (m : Measured). m.hub) d.1, hub_does conn (after line (Writable room)) es d.0 new d.2)
hub_does conn line (Ends ∷ es) old new d = (d.0.hub, ap (λ (m : Measured). m.hub) d.1, hub_does conn (after line Ends) es d.0 new d.2)
hub_does conn line (Fails ∷ es) old new d = (d.0.hub, ap (λ (m : Measured). m.hub) d.1, hub_does conn (after line Fails) es d.0 new d.2)
hub_does conn line (Worked ∷ es) old new d = (d.0.hub, ap (λ (m : Measured). m.hub) d.1, hub_does conn line es d.0 new d.2)

all_happen : (lines : ℕ → Line) (done : List Act) (old new : Measured) → AllHappen lines done old new → told.AllHappen lines done old.hub new.hub
all_happen lines [] old new d = ap (λ (m : Measured). m.hub) d
all_happen lines (Opened conn ∷ done) old new d = (d.0.hub, d.1.opens, all_happen (lines_after lines (Opened conn)) done d.0 new d.2)
all_happen lines (Turned conn events ∷ done) old new d = (d.0.hub, hub_does conn (lines conn) events old d.0 d.1, all_happen (lines_after lines (Turned conn events)) done d.0 new d.2)
all_happen lines (Closed conn ∷ done) old new d = (d.0.hub, d.1.closes, all_happen (lines_after lines (Closed conn)) done d.0 new d.2)
all_happen lines (Drained conn ∷ done) old new d = (d.0.hub, ap (λ (m : Measured). m.hub) d.1, all_happen lines done d.0 new d.2)

-- what is read and written of a connection's own events is so of its stream
answered : (q : ℕ) (items : List Item) (replies : List Reply) (es : List Event) (t : Traffic) → IsServed q items replies es → (t.read ≡ read fresh es) × (t.written ≡ sent fresh es) → IsAnswered q items replies t
answered q items replies es t s e = record {
  waiting = s.waiting;
  unsent = lost fresh es ++ (run fresh es).owed;
  requests = ap (items_in q) e.0 ∙ s.first;
  written = ap (λ (xs : List ℕ). xs ++ (lost fresh es ++ (run fresh es).owed)) e.1 ∙ sym (append_assoc (sent fresh es) (lost fresh es) (run fresh es).owed) ∙ s.bytes;
}

sessions : WiresShow → (lines : ℕ → Line) (acts : List Act) (h h' : HubState) (served : Serves lines h acts h') (old new : ℕ → Option Traffic) → AllMove lines acts old new → Sessions lines acts served.items old new
sessions law lines acts h h' served old new m q before mid behind e k =
    let moment : Moment lines q before mid behind old new = law lines acts old new m q before mid behind e k in
    let session : SessionIn q served.items before mid = served.sessions q before mid behind e k in
    record { now = moment.now; came = moment.came; left = moment.left; session = session; answered = λ t is. answered q session.own (told_in mid) (events_of q mid) t session.served (moment.shows t is) }

-- acts are served, whatever steps they are
acts_served : TurnsAreServed → WiresShow → (steps : List Step) (lines : ℕ → Line) (old new : Lanes Measured) → ActsOf steps lines old new → StepsAreServed steps lines old new
acts_served law show steps lines old new done =
    let served : Serves lines old.core.hub done.acts new.core.hub = law lines done.acts old.core.hub new.core.hub (all_happen lines done.acts old.core new.core done.happen) in
    (done, served, sessions show lines done.acts old.core.hub new.core.hub served old.wires new.wires done.move)

pub loop_served : TurnsAreServed → WiresShow → LoopIsServed
loop_served law show steps lines old new same d = acts_served law show steps lines old new (acts_of steps lines old new same d)

pub are_served : LoopIsServed → (old new : Lanes Measured) → DoesSome hub_steps old new → AreServed old new
are_served law old new d = record { over = λ lines same. (d.0, law d.0 lines old new same d.1) }

pub rounds_joined : TurnsAreServed → WiresShow → JoinsRounds
rounds_joined law show = record {
  none = λ a. record { over = λ lines same. ([], acts_served law show [] lines a a (record { acts = []; steps_are = refl; happen = refl; move = λ q. refl; lines_are = same; kept = λ q line e. inl (line, e, tt) })) };
  both = λ a b c f g. record {
    over = λ lines same.
        let h = f.over lines same in
        let k = g.over (all_lines_after lines h.1.0.acts) h.1.0.lines_are in
        (h.0 ++ k.0, acts_served law show (h.0 ++ k.0) lines a c (acts_on h.0 k.0 lines a b c h.1.0 k.1.0));
  };
}
