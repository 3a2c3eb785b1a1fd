-- The page of metrics (Prometheus' text format, version 0.0.4): of each metric two lines that name it, its help and its type, and a line for each sample.
use Rattle.std.specs.Prelude.{ℕ, zero, suc, ◌+◌, ◌-◌, ◌/◌, ◌%◌, ◌^◌, ◌==◌, Bool, List, [], ◌∷◌, ◌++◌, min, sum, take, drop, length, nat_lt, nat_le, if◌then◌else◌, codes, decimal, Option, Some, None, slice_get, slice_index, string_bytes}
use Rattle.admin_pages.specs.declared.about.About.{About}
use Rattle.admin_pages.specs.declared.counted.Metrics.{Metrics}
use Rattle.admin_pages.specs.declared.families.Samples.{Samples}
use Rattle.admin_pages.specs.declared.families.Samples.TheVariants.{Build, Gauge, Cells, Times, Total, TenantTotal, TenantGauge}
use Rattle.admin_pages.specs.declared.page.Gauges.{Gauges}
use Rattle.admin_pages.specs.declared.page.Page.{Page}
use Rattle.admin_pages.specs.Counting.{sums_at}
use Rattle.admin_pages.specs.Families.{Metric, families, gauges_of, numbers, rows_of, tenant_gauges_of}
use Rattle.admin_pages.specs.Labels.{command_name, status_name, status_places, time_places, bound_name, escaped, tenant_name}

abbrev pub head : Metric → List ℕ
head f = codes "# HELP " ++ (f.name ++ (codes " " ++ (f.help ++ (codes "\n# TYPE " ++ (f.name ++ (codes " " ++ (f.kind ++ codes "\n")))))))

-- a histogram has a sample for each bound, the sum, and the count
abbrev pub suffix : Samples → ℕ → List ℕ
suffix Times place = if nat_lt place time_places then codes "_bucket" else if place == time_places then codes "_sum" else codes "_count"
suffix _ place = []

abbrev pub build_label : About → List ℕ
build_label a =
    codes "{version=\"" ++ (escaped (string_bytes a.version) ++ (codes "\",commit=\"" ++ (escaped (string_bytes a.commit)
    ++ (codes "\",proved=\"" ++ (escaped (string_bytes a.proved) ++ (codes "\",kit=\"" ++ (escaped (string_bytes a.kit) ++ codes "\"}")))))))

abbrev pub tenant_label : About → ℕ → List ℕ
tenant_label a place = codes "{tenant=\"" ++ (tenant_name a.tenants.items place ++ codes "\"}")

abbrev pub label : About → Samples → ℕ → List ℕ
label a Build place = build_label a
label a Cells place = codes "{command=\"" ++ (command_name (place / status_places) ++ (codes "\",status=\"" ++ (status_name (place % status_places) ++ codes "\"}")))
label a Times place = if nat_lt place time_places then codes "{le=\"" ++ (bound_name place ++ codes "\"}") else []
label a (TenantTotal i) place = tenant_label a place
label a (TenantGauge i) place = tenant_label a place
label a _ place = []

-- the sum of a histogram is counted in microseconds, and told in seconds
abbrev pub value_end : Samples → ℕ → List ℕ
value_end Times place = if place == time_places then codes "e-6\n" else codes "\n"
value_end _ place = codes "\n"

unfoldable pub sample : About → Metric → (place number : ℕ) → List ℕ
sample a f place number = f.name ++ (suffix f.samples place ++ (label a f.samples place ++ (codes " " ++ (decimal number ++ value_end f.samples place))))

abbrev pub total : List ℕ → ℕ
total counts = min (sum counts) (2 ^ 64 - 1)

-- up to a bound are all that are up to a lower one, too
abbrev pub time_value : Metrics → ℕ → ℕ
time_value m place = if nat_lt place time_places then total (take (place + 1) m.times) else if place == time_places then m.micros else total m.times

-- the number of a sample
abbrev pub value : Metrics → Gauges → Samples → ℕ → ℕ
value m g Build place = 1
value m g (Gauge i) place = slice_index (numbers (gauges_of g)) i
value m g Cells place = slice_index m.requests place
value m g Times place = time_value m place
value m g (Total i) place = slice_index m.totals i
value m g (TenantTotal i) place = slice_index (sums_at m.tenants place) i
value m g (TenantGauge i) place = slice_index (numbers (tenant_gauges_of g place)) i

-- a metric's head stands before its first sample
abbrev pub start : Metric → ℕ → List ℕ
start f place = if place == 0 then head f else []

unfoldable pub row : About → Metrics → Gauges → Metric → ℕ → List ℕ
row a m g f place = start f place ++ sample a f place (value m g f.samples place)

-- so many samples of a metric, from a place on
abbrev pub rows : About → Metrics → Gauges → Metric → (place count : ℕ) → List ℕ
rows a m g f place zero = []
rows a m g f place (suc count) = row a m g f place ++ rows a m g f (place + 1) count

abbrev pub sheet : About → Metrics → Gauges → List Metric → List ℕ
sheet a m g [] = []
sheet a m g (f ∷ fs) = rows a m g f 0 (rows_of f.samples g.tenants) ++ sheet a m g fs

-- all of it
abbrev pub page : About → Metrics → Gauges → List ℕ
page a m g = sheet a m g families

-- what is not written, where so many samples of the first of these metrics are
abbrev pub left_of : About → Metrics → Gauges → (place : ℕ) → List Metric → List ℕ
left_of a m g place [] = []
left_of a m g place (f ∷ fs) = rows a m g f place (rows_of f.samples g.tenants - place) ++ sheet a m g fs

abbrev pub left : About → Page → List ℕ
left a p = left_of a p.metrics p.gauges p.place (drop p.family families)

abbrev pub is_whole : Page → Bool
is_whole p = nat_le (length families) p.family

-- a place further, or at the next metric
abbrev pub moved_at : Page → Option Metric → Page
moved_at p None = p
moved_at p (Some f) = if nat_le (rows_of f.samples p.gauges.tenants) p.place then record p { family = p.family + 1; place = 0 } else record p { place = p.place + 1 }

abbrev pub moved : Page → Page
moved p = moved_at p (slice_get families p.family)
