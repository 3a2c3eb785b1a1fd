-- The connections of the administration address: this project's own.
use Rattle.std.specs.Prelude.{◌≡◌, ◌⊎◌, ℕ, ◌+◌, ◌-◌, ◌^◌, ◌<◌, ◌&&◌, List, ◌++◌, take, drop, Bool, true, false, nat_le, nat_lt, Option, Some, None}
use Rattle.slab.specs.Slab.{Slab, get}
use Rattle.outbox.specs.Traffic.{Traffic, with_read, with_written}
use Rattle.admin_pages.specs.declared.about.About.{About}
use Rattle.admin_pages.specs.declared.counted.Metrics.{Metrics}
use Rattle.admin_pages.specs.declared.page.Gauges.{Gauges}
use Rattle.admin_pages.specs.declared.standing.Standing.{Standing}
use Rattle.admin_connections.specs.declared.desk.Caller.{Caller}
use Rattle.admin_connections.specs.declared.visit.Stage.TheVariants as stage
use Rattle.admin_connections.specs.Visits.{AtMostSays, Begins, is_head, owed_of}

-- nothing is said, or what is asked by the bytes that came on a connection before, and a piece that was read of its stream now
abbrev pub SaysBy : (own : List (List ℕ)) → (wire wire' : Option Traffic) → (came : List ℕ) → Standing → Standing → Type 0
SaysBy own wire wire' came old new = (new ≡ old) ⊎ ((piece : List ℕ) × (wire' ≡ with_read piece wire) × AtMostSays own (came ++ piece) old new)

-- what the connection at a place may have said: where it is closed behind it, its stream is gone
abbrev pub SaysAt : {S : Type 0} → (own : List (List ℕ)) → (S → Option Traffic) → Option (Caller S) → Option (Caller S) → Standing → Standing → Type 0
SaysAt own told None caller' old new = new ≡ old
SaysAt own told (Some caller) None old new = (wire' : Option Traffic) × SaysBy own (told caller.stream) wire' caller.visit.head.items old new
SaysAt own told (Some caller) (Some caller') old new = SaysBy own (told caller.stream) (told caller'.stream) caller.visit.head.items old new

-- so many bytes of what is owed are written, and the others are owed; or nothing is written
abbrev pub Sends : (wire wire' : Option Traffic) → (owed owed' : List ℕ) → Type 0
Sends wire wire' owed owed' = ((n : ℕ) × (wire' ≡ with_written (take n owed) wire) × (owed' ≡ drop n owed)) ⊎ ((wire' ≡ wire) × (owed' ≡ owed))

-- bytes leave at a place whose connection owes a reply, and stays open
abbrev pub SendsAt : {S : Type 0} → (S → Option Traffic) → Option (Caller S) → Option (Caller S) → Type 0
SendsAt told None caller' = Unit {0}
SendsAt told (Some caller) None = Unit {0}
SendsAt told (Some caller) (Some caller') = caller.visit.stage ≡ stage.Reply → Sends (told caller.stream) (told caller'.stream) (owed_of caller.visit) (owed_of caller'.visit)

-- the page of these counts and figures is begun at a place, whatever the server is, unless its connection is closed
abbrev pub BeginsAt : {S : Type 0} → Metrics → Gauges → Option (Caller S) → Option (Caller S) → Type 0
BeginsAt metrics gauges None caller' = Unit {0}
BeginsAt metrics gauges (Some caller) None = Unit {0}
BeginsAt metrics gauges (Some caller) (Some caller') = (about : About) → Begins about metrics gauges caller.visit caller'.visit

-- the keys of these connections: eight below the greatest ones, which the system's own have
abbrev pub is_own : ℕ → Bool
is_own key = nat_lt (2 ^ 64 - 25) key && nat_le key (2 ^ 64 - 17)

-- five seconds and more passed since a connection was accepted
abbrev pub IsLate : {S : Type 0} → Option (Caller S) → ℕ → Type 0
IsLate None now = ⊥
IsLate (Some c) now = c.since + 5 < now

-- the request of a connection has not come whole
abbrev pub IsSilent : {S : Type 0} → Option (Caller S) → Type 0
IsSilent None = ⊥
IsSilent (Some c) = is_head c.visit.stage ≡ true

-- it has, so that the connection has a reply or gets one
abbrev pub IsAnswered : {S : Type 0} → Option (Caller S) → Type 0
IsAnswered None = ⊥
IsAnswered (Some c) = is_head c.visit.stage ≡ false

-- each connection that is answered is as it was
abbrev pub KeepsAnswered : {S : Type 0} → Slab (Caller S) → Slab (Caller S) → Type 0
KeepsAnswered old new = (place : ℕ) → IsAnswered (get old place) → get new place ≡ get old place
