-- What the steps of a loop over one hub come to: this project's own.
use Rattle.std.specs.Prelude.{◌≡◌, ◌⊎◌, ℕ, List, [], ◌∷◌, ◌++◌, map, Option, Some}
use Rattle.outbox.specs.Lines.{Line}
use Rattle.outbox.specs.Traffic.{Traffic}
use Rattle.outbox.specs.Turns.{DoesAll}
use Rattle.open_connections.specs.Looping as loop
use Rattle.open_connections.specs.Looping.{Lanes, Step, TakenIn, HasTurn, LetGo, DoesEach}
use Rattle.path_hub.specs.Items.{Item}
use Rattle.path_hub.specs.Runs.{Sent as Reply}
use Rattle.path_hub.specs.Pending.{item}
use Rattle.path_hub.specs.Into.{joined}
use Rattle.path_hub.specs.Serving.{items_in}
use Rattle.hub_core.specs.Acts.{Act, Opened, Turned, Closed, Drained, lines_after, all_lines_after, told_in, bodies_of, frames_of, IsKept}
use Rattle.hub_core.specs.Wires.{AllMove}
use Rattle.hub_core.specs.Served.{Serves, SessionIn}
use Rattle.hub_server.specs.Measuring.{Measured, Opens, Closes, takes, Answers, hub_steps}

-- the step that an act is
abbrev pub step_of : Act → Step
step_of (Opened conn) = TakenIn conn
step_of (Turned conn events) = HasTurn conn
step_of (Closed conn) = LetGo conn
step_of (Drained conn) = loop.Drained conn

-- what an act does to the hub and to its counts
abbrev pub Happens : (ℕ → Line) → Act → Measured → Measured → Type 0
Happens lines (Opened conn) old new = Opens conn old new
Happens lines (Turned conn events) old new = DoesAll (takes conn) (Answers conn) (lines conn) events old new
Happens lines (Closed conn) old new = Closes conn old new
Happens lines (Drained conn) old new = new ≡ old

abbrev pub AllHappen : (ℕ → Line) → List Act → Measured → Measured → Type 0
AllHappen lines [] old new = new ≡ old
AllHappen lines (act ∷ acts) old new = (mid : Measured) × Happens lines act old mid × AllHappen (lines_after lines act) acts mid new

-- lines of all connections that are those of the ones that are served
abbrev pub Extends : (ℕ → Line) → (ℕ → Option Line) → Type 0
Extends all served = (q : ℕ) (line : Line) → served q ≡ Some line → all q ≡ line

-- one that is served behind these acts was so before them and is kept in all, or is opened in one and kept in those behind
abbrev pub IsKeptSince : ℕ → List Act → (old : Option Line) → Type 0
IsKeptSince q acts old = ((line : Line) × (old ≡ Some line) × IsKept q acts) ⊎ ((before : List Act) × (mid : List Act) × (acts ≡ before ++ (Opened q ∷ mid)) × IsKept q mid)

-- the acts that the steps are, one each: each request that is answered in them is counted once, and what is read and written moves on the streams
pub record ActsOf (steps : List Step) (lines : ℕ → Line) (old new : Lanes Measured) : Type 0 where
  pub acts : List Act
  pub steps_are : map step_of acts ≡ steps
  pub happen : AllHappen lines acts old.core new.core
  pub move : AllMove lines acts old.wires new.wires
  pub lines_are : Extends (all_lines_after lines acts) new.lines
  pub kept : (q : ℕ) (line : Line) → new.lines q ≡ Some line → IsKeptSince q acts (old.lines q)

-- the bytes written to a peer are a prefix of the replies to the first requests in the bytes read of it
pub record IsAnswered (q : ℕ) (items : List Item) (replies : List Reply) (t : Traffic) : Type 0 where
  pub waiting : List (Option (List ℕ))
  pub unsent : List ℕ
  pub requests : items_in q t.read ≡ map (item q) (bodies_of q items ++ waiting)
  pub written : t.written ++ unsent ≡ joined (frames_of q replies)

-- so it is at each moment from where a connection was taken in on, as far as its stream shows its bytes
pub record Session (lines : ℕ → Line) (items : List Item) (q : ℕ) (before mid behind : List Act) (old new : ℕ → Option Traffic) : Type 0 where
  pub now : ℕ → Option Traffic
  pub came : AllMove lines (before ++ Opened q ∷ mid) old now
  pub left : AllMove (all_lines_after lines (before ++ Opened q ∷ mid)) behind now new
  pub session : SessionIn q items before mid
  pub answered : (t : Traffic) → now q ≡ Some t → IsAnswered q session.own (told_in mid) t

abbrev pub Sessions : (ℕ → Line) → List Act → List Item → (old new : ℕ → Option Traffic) → Type 0
Sessions lines acts items old new = (q : ℕ) (before mid behind : List Act) → acts ≡ before ++ (Opened q ∷ mid ++ behind) → IsKept q mid → Session lines items q before mid behind old new

-- steps as acts that are served
abbrev pub StepsAreServed : List Step → (ℕ → Line) → (old new : Lanes Measured) → Type 0
StepsAreServed steps lines old new = (done : ActsOf steps lines old new) × (served : Serves lines old.core.hub done.acts new.core.hub) × Sessions lines done.acts served.items old.wires new.wires

abbrev pub LoopIsServed : Type 0
LoopIsServed = (steps : List Step) (lines : ℕ → Line) (old new : Lanes Measured) → Extends lines old.lines → DoesEach hub_steps steps old new → StepsAreServed steps lines old new

-- what the law says of what a loop did
pub record AreServed (old new : Lanes Measured) : Type 0 where
  pub over : (lines : ℕ → Line) → Extends lines old.lines → (steps : List Step) × StepsAreServed steps lines old new

-- Where nothing was done, all are served. What is served in rounds, one behind the other, is so in all of them together.
pub record JoinsRounds : Type 0 where
  pub none : (a : Lanes Measured) → AreServed a a
  pub both : (a b c : Lanes Measured) → AreServed a b → AreServed b c → AreServed a c
