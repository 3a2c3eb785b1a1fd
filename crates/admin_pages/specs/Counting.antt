-- What is counted of requests: this project's own.
use Rattle.std.specs.Prelude.{ℕ, ◌+◌, ◌-◌, ◌*◌, ◌^◌, List, [], ◌∷◌, length, min, replicate, nat_lt, if◌then◌else◌, Option, Some, None, unwrap_or, slice_get, slice_index, slice_set}
use Rattle.std.specs.List.{count_by}
use Rattle.protocol.specs.Tables.{statuses}
use Rattle.admin_pages.specs.declared.counted.TheConstants.{TOTALS, TENANT_TOTALS}
use Rattle.admin_pages.specs.declared.counted.Metrics.{Metrics}
use Rattle.admin_pages.specs.declared.counted.Served.{Served}
use Rattle.admin_pages.specs.Families.{numbers, totals_of, tenant_totals_of}
use Rattle.admin_pages.specs.Labels.{bounds, cells, command_places, status_places, time_places}

-- a sum, up to the greatest number of 64 bits
abbrev pub added : ℕ → ℕ → ℕ
added n more = min (n + more) (2 ^ 64 - 1)

-- one more at this place
abbrev pub raised : List ℕ → ℕ → List ℕ
raised counts place = slice_set counts place (added (slice_index counts place) 1)

-- a number to each of some sums, up to their greatest
abbrev pub added_each : List ℕ → List ℕ → List ℕ
added_each sums [] = sums
added_each [] (k ∷ ks) = k ∷ ks
added_each (n ∷ ns) (k ∷ ks) = added n k ∷ added_each ns ks

-- the sums at a place
abbrev pub sums_at : List (List ℕ) → ℕ → List ℕ
sums_at rows place = unwrap_or (slice_get rows place) []

abbrev pub added_at : List (List ℕ) → Option ℕ → List ℕ → List (List ℕ)
added_at rows None more = rows
added_at rows (Some place) more = slice_set rows place (added_each (sums_at rows place) more)

-- nothing was counted
abbrev pub none : Metrics
none = record {
  requests = replicate cells 0;
  times = replicate time_places 0;
  micros = 0;
  totals = replicate TOTALS 0;
  tenants = replicate 256 (replicate TENANT_TOTALS 0);
}

-- each command and status has a place of its own; what has no command is at 0, and FrameFault behind the statuses
abbrev pub cell : (command status : ℕ) → ℕ
cell command status = (if nat_lt command command_places then command else 0) * status_places + min status (length statuses)

-- the first bound that is not below a time
abbrev pub time_place : ℕ → ℕ
time_place micros = count_by (λ bound. nat_lt bound.0 micros) bounds

-- one request more: under its command and status, and its time; its sums are added to those of all, and of its tenant if it has one
abbrev pub after_request : Metrics → Served → Metrics
after_request m s = record m {
  requests = raised m.requests (cell s.command s.status);
  times = raised m.times (time_place s.micros);
  micros = added m.micros s.micros;
  totals = added_each m.totals (numbers (totals_of s));
  tenants = added_at m.tenants s.tenant (numbers (tenant_totals_of s));
}
