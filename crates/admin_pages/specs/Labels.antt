-- The values of labels (Prometheus' text format, version 0.0.4): names of the protocol's commands and statuses, the bounds of times in seconds, and names that were given.
use Rattle.std.specs.Prelude.{ℕ, suc, ◌*◌, ◌==◌, List, [], ◌∷◌, String, string_bytes, codes, decimal, length, flat_map, if◌then◌else◌, Option, Some, None, unwrap_or, slice_get}
use Rattle.protocol.specs.Tables.{commands, statuses, command_at, status_at}

-- a place for each command by its byte, and 0 for what has none
abbrev pub command_places : ℕ
command_places = suc (length commands)

-- a place for each status by its number, and the last for FrameFault
abbrev pub status_places : ℕ
status_places = suc (length statuses)

-- a counter for each command and status
abbrev pub cells : ℕ
cells = command_places * status_places

abbrev pub command_name : ℕ → List ℕ
command_name place = (unwrap_or (command_at place) (0, codes "none")).1

abbrev pub status_name : ℕ → List ℕ
status_name place = (unwrap_or (status_at place) (255, codes "FrameFault")).1

-- the bounds of request times, in microseconds and as they are told in seconds
abbrev pub bounds : List (ℕ × List ℕ)
bounds = (100, codes "0.0001") ∷ (250, codes "0.00025") ∷ (500, codes "0.0005") ∷ (1000, codes "0.001") ∷ (2500, codes "0.0025") ∷ (5000, codes "0.005") ∷ (10000, codes "0.01") ∷ (25000, codes "0.025") ∷ (50000, codes "0.05") ∷ (100000, codes "0.1") ∷ (250000, codes "0.25") ∷ (500000, codes "0.5") ∷ (1000000, codes "1") ∷ (2500000, codes "2.5") ∷ (5000000, codes "5") ∷ (10000000, codes "10") ∷ []

-- a place for the times up to each bound, and the last for those above
abbrev pub time_places : ℕ
time_places = suc (length bounds)

abbrev pub bound_name : ℕ → List ℕ
bound_name place = (unwrap_or (slice_get bounds place) (0, codes "+Inf")).1

-- a backslash stands before a backslash and a double quote, and with an n for a line feed
abbrev pub escaped_byte : ℕ → List ℕ
escaped_byte byte = if byte == 92 then 92 ∷ 92 ∷ [] else if byte == 34 then 92 ∷ 34 ∷ [] else if byte == 10 then 92 ∷ 110 ∷ [] else byte ∷ []

abbrev pub escaped : List ℕ → List ℕ
escaped text = flat_map escaped_byte text

-- what a tenant is called, or else its place
abbrev pub name_or_place : {A : Type 0} → Option (String A) → ℕ → List ℕ
name_or_place None place = decimal place
name_or_place (Some name) place = escaped (string_bytes name)

abbrev pub tenant_name : {A : Type 0} → List (String A) → ℕ → List ℕ
tenant_name names place = name_or_place (slice_get names place) place
