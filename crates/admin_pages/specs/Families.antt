-- The metrics that are told: this project's own names, in the text format of Prometheus.
use Rattle.std.specs.Prelude.{ℕ, ◌+◌, ◌-◌, ◌==◌, ◌&&◌, ◌||◌, not, Bool, true, List, [], ◌∷◌, ◌++◌, map, length, drop, codes, if◌then◌else◌, slice_index}
use Rattle.std.specs.List.{list_any}
use Rattle.std.specs.Str.{bytes_eq}
use Rattle.admin_pages.specs.declared.counted.Served.{Served}
use Rattle.admin_pages.specs.declared.families.Family.{Family}
use Rattle.admin_pages.specs.declared.families.Samples.{Samples}
use Rattle.admin_pages.specs.declared.families.Samples.TheVariants.{Build, Gauge, Cells, Times, Total, TenantTotal, TenantGauge}
use Rattle.admin_pages.specs.declared.families.TheConstants.{FAMILIES}
use Rattle.admin_pages.specs.declared.page.Gauges.{Gauges}
use Rattle.admin_pages.specs.Labels.{cells, time_places}

abbrev pub bit : Bool → ℕ
bit b = if b then 1 else 0

-- the gauges, each with its number
abbrev pub gauges_of : Gauges → List (List ℕ × ℕ)
gauges_of g = (codes "path_server_uptime_seconds", g.uptime) ∷ (codes "path_server_ready", bit g.is_ready) ∷ (codes "path_server_connections_open", g.open) ∷ (codes "path_server_connections_limit", g.open_limit) ∷ (codes "path_server_accept_refused", bit g.is_refused) ∷ (codes "path_server_connections_waiting", g.waiting) ∷ (codes "path_server_buffered_bytes", g.buffered) ∷ (codes "path_server_buffered_limit_bytes", g.limit) ∷ (codes "path_server_connections_total", g.connections) ∷ (codes "path_server_read_bytes_total", g.read) ∷ (codes "path_server_written_bytes_total", g.written) ∷ (codes "path_server_dropped_lines_total", g.dropped) ∷ (codes "path_server_lost_lines_total", g.lost) ∷ []

-- the sums over all requests, each with what a request adds to it
abbrev pub totals_of : Served → List (List ℕ × ℕ)
totals_of s = (codes "path_server_charged_units_total", s.units) ∷ (codes "path_server_slow_queries_total", bit s.is_slow) ∷ []

-- the sums over the requests of a tenant
abbrev pub tenant_totals_of : Served → List (List ℕ × ℕ)
tenant_totals_of s = (codes "path_server_tenant_requests_total", 1) ∷ (codes "path_server_tenant_charged_units_total", s.units) ∷ (codes "path_server_tenant_refused_bytes_total", s.refused) ∷ []

-- the gauges of a tenant, by its place
abbrev pub tenant_gauges_of : Gauges → ℕ → List (List ℕ × ℕ)
tenant_gauges_of g place = (codes "path_server_tenant_collections", slice_index g.collections place) ∷ (codes "path_server_tenant_documents", slice_index g.documents place) ∷ (codes "path_server_tenant_text_bytes", slice_index g.texts place) ∷ (codes "path_server_tenant_memory_bytes", slice_index g.memory place) ∷ (codes "path_server_tenant_connections_waiting", slice_index g.waiting_of place) ∷ []

abbrev pub numbers : List (List ℕ × ℕ) → List ℕ
numbers list = map (λ it. it.1) list

-- a metric: its name, its type, whose numbers its samples are, and what it is
pub record Metric : Type 0 where
  pub name : List ℕ
  pub kind : List ℕ
  pub samples : Samples
  pub help : List ℕ

abbrev pub shown : Family → Metric
shown f = record { name = f.name.now; kind = f.kind.now; samples = f.samples; help = f.help.now }

-- the program's table, in the order in which they are told
unfoldable pub families : List Metric
families = map (λ row. record { name = row.0.now; kind = row.1.now; samples = row.2; help = row.3.now }) FAMILIES.now

-- one sample, one for each command and status, one for each bound of the times and three more, one for each tenant
abbrev pub rows_of : Samples → (tenants : ℕ) → ℕ
rows_of Build tenants = 1
rows_of (Gauge place) tenants = 1
rows_of Cells tenants = cells
rows_of Times tenants = time_places + 2
rows_of (Total place) tenants = 1
rows_of (TenantTotal place) tenants = tenants
rows_of (TenantGauge place) tenants = tenants

-- no text stands twice
abbrev pub all_differ : List (List ℕ) → Bool
all_differ [] = true
all_differ (name ∷ names) = not (list_any (bytes_eq name) names) && all_differ names

-- a counter's name ends in `_total`
abbrev pub kind_by : Samples → (name : List ℕ) → List ℕ
kind_by Times name = codes "histogram"
kind_by _ name = if bytes_eq (drop (length name - 6) name) (codes "_total") then codes "counter" else codes "gauge"

-- a help is one line, and has nothing that is escaped
abbrev pub fits : Metric → Bool
fits m = bytes_eq m.kind (kind_by m.samples m.name) && not (list_any (λ byte. byte == 10 || byte == 92) m.help)

-- the numbers of a list, each told under its name by its place
abbrev pub each_of : (ℕ → Samples) → (place : ℕ) → List (List ℕ × ℕ) → List (List ℕ × Samples)
each_of samples place [] = []
each_of samples place (it ∷ rest) = (it.0, samples place) ∷ each_of samples (place + 1) rest

-- the names in the order in which they are told, each with whose numbers its samples are
abbrev pub listed : Gauges → Served → (tenant : ℕ) → List (List ℕ × Samples)
listed g s tenant =
    (codes "path_server_build_info", Build) ∷ (each_of Gauge 0 (gauges_of g)
    ++ (codes "path_server_requests_total", Cells) ∷ (codes "path_server_request_seconds", Times) ∷ (each_of Total 0 (totals_of s)
    ++ (each_of TenantTotal 0 (tenant_totals_of s) ++ each_of TenantGauge 0 (tenant_gauges_of g tenant))))

abbrev pub named : Metric → List ℕ × Samples
named m = (m.name, m.samples)
