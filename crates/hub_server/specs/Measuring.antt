-- A hub whose answers are counted: this project's own.
use Rattle.std.specs.Prelude.{◌≡◌, ◌==◌, ◌&&◌, ◌||◌, ℕ, List, slice_index, nat_le, nat_lt, Bool, false, if◌then◌else◌, Option, Some, None}
use Rattle.path_hub.specs.HubState.{HubState}
use Rattle.connection_turns.specs.declared.answered.RequestKind.{RequestKind}
use Rattle.path_hub.specs.UnderWay.{is_first_held}
use Rattle.path_hub.specs.WorkLeft.{work_left_at}
use Rattle.path_hub.specs.declared.tasks.Tasks.{Tasks}
use Rattle.hub_core.specs.Asking.{asks}
use Rattle.hub_core.specs.InFront.{IsAhead}
use Rattle.hub_core.specs.Long.{is_first_long}
use Rattle.hub_core.specs.Answering as listen
use Rattle.admin_pages.specs.declared.counted.Metrics.{Metrics}
use Rattle.admin_pages.specs.declared.counted.Served.{Served}
use Rattle.admin_pages.specs.Counting.{none, after_request}
use Rattle.connection_turns.specs.Cores.{CoreSteps}

pub record Measured : Type 0 where
  pub hub : HubState
  pub metrics : Metrics

-- and the queries and readings that are under way
pub record MeasuredWork : Type 0 where
  pub seen : Measured
  pub tasks : Tasks

-- nothing was counted
abbrev pub measured : HubState → Measured
measured hub = record { hub = hub; metrics = none }

-- a query that took longer than a bound
abbrev pub is_slow : (command micros : ℕ) → Option ℕ → Bool
is_slow command micros None = false
is_slow command micros (Some bound) = command == 5 && nat_lt bound micros

-- a status by which a limit refuses a request: TooLong, TooDeep and NumberLimit, the quotas, QueryTooLong, ReplyTooLarge, NoMemory and Costly
abbrev pub is_of_limit : ℕ → Bool
is_of_limit status =
    status == 5 || (status == 8 || (status == 9 || ((nat_le 12 status && nat_le status 14) || (status == 16 || (nat_le 20 status && nat_le status 22)))))

-- the bytes of a request that a limit refused
abbrev pub refused_by : (status bytes : ℕ) → ℕ
refused_by status bytes = if is_of_limit status then bytes else 0

-- a request as it is counted: what it asks, the status of its reply behind the four bytes of the length, how long it took, what it was charged, and its bytes if a limit refused it
abbrev pub served : RequestKind → (reply : List ℕ) → (micros units : ℕ) → (bound : Option ℕ) → Served
served asked reply micros units bound = record {
  command = asked.command;
  status = slice_index reply 4;
  tenant = asked.tenant;
  micros = micros;
  units = units;
  refused = refused_by (slice_index reply 4) asked.bytes;
  is_slow = is_slow asked.command micros bound;
}

-- this reply to what is asked is counted once, with its units
pub record Counts (asked : RequestKind) (reply : List ℕ) (old new : Measured) : Type 0 where
  pub micros : ℕ
  pub units : ℕ
  pub bound : Option ℕ
  pub hub_stays : new.hub ≡ old.hub
  pub counted : new.metrics ≡ after_request old.metrics (served asked reply micros units bound)

-- a session is opened or ended, a piece is taken: nothing is counted
pub record Opens (conn : ℕ) (old new : Measured) : Type 0 where
  pub opens : listen.Opens conn old.hub new.hub
  pub metrics_stay : new.metrics ≡ old.metrics

pub record Closes (conn : ℕ) (old new : Measured) : Type 0 where
  pub closes : listen.Closes conn old.hub new.hub
  pub metrics_stay : new.metrics ≡ old.metrics

abbrev pub takes : ℕ → Measured → List ℕ → Measured → Type 0
takes conn old piece new = listen.takes conn old.hub piece new.hub × (new.metrics ≡ old.metrics)

-- the hub answers, and the answer is counted once, with its units: under the command and the tenant of the request, and the status of the reply
pub record Answers (conn : ℕ) (old : Measured) (reply : List ℕ) (new : Measured) : Type 0 where
  pub answers : listen.Answers conn old.hub reply new.hub
  pub micros : ℕ
  pub units : ℕ
  pub bound : Option ℕ
  pub counted : new.metrics ≡ after_request old.metrics (served (asks old.hub.tenants answers.body) reply micros units bound)

abbrev pub IsIdle : ℕ → Measured → Type 0
IsIdle conn now = listen.IsIdle conn now.hub

abbrev pub is_over : ℕ → Measured → Bool
is_over conn now = listen.is_over conn now.hub

-- what it does at a connection, as a loop over it has it
abbrev pub hub_steps : CoreSteps MeasuredWork
hub_steps = record { Seen = Measured; seen = λ m. m.seen; idle = IsIdle; left = λ conn m. work_left_at conn m.seen.hub m.tasks; aheads = λ conn m ahead. IsAhead conn m.seen.hub ahead; opens = Opens; closes = Closes; takes = takes; answers = Answers }

-- whether the request in front waits for what others have under way
abbrev pub hub_waits : ℕ → MeasuredWork → Bool
hub_waits conn m = is_first_held conn m.seen.hub m.tasks

-- whether it may take long
abbrev pub hub_longs : ℕ → MeasuredWork → Bool
hub_longs conn m = is_first_long conn m.seen.hub
