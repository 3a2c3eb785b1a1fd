-- The page that is begun at a place.
use Rattle.std.proofs.Common.{◌≡◌, ℕ, false, Option, Some, Result, Ok, Err, sym, ap, subst}
use Rattle.std.specs.Prelude.{OnOk, is_err, is_some}
use Rattle.slab.specs.Slab.{Slab, Updates, get, with_value}
use Rattle.slab.proofs.SlabLemmas.{Updates-with_value}
use Rattle.admin_pages.specs.declared.about.About.{About}
use Rattle.admin_pages.specs.declared.counted.Metrics.{Metrics}
use Rattle.admin_pages.specs.declared.page.Gauges.{Gauges}
use Rattle.admin_connections.specs.declared.desk.Caller.{Caller}
use Rattle.admin_connections.specs.Desks.{BeginsAt}
use Rattle.admin_connections.specs.Visits.{Begins}

pub ok_so : {A E : Type 0} (P : Type 0) (r : Result A E) → is_err r ≡ false → OnOk r P → P
ok_so P (Ok x) e h = h
ok_so P (Err x) e h = absurd cc

pub begun_at : {S : Type 0} (metrics : Metrics) (gauges : Gauges) (slab : Slab (Caller S)) (key : ℕ) (c c' : Caller S) → get slab key ≡ Some c → ((about : About) → Begins about metrics gauges c.visit c'.visit)
    → BeginsAt metrics gauges (get slab key) (get (with_value slab key c') key)
begun_at {S} metrics gauges slab key c c' h begins =
    let u : Updates slab (with_value slab key c') key (Some c') = Updates-with_value slab key c' (ap (λ (x : Option (Caller S)). is_some x) h) in
    subst (λ (x : Option (Caller S)). BeginsAt metrics gauges x (get (with_value slab key c') key)) (sym h) (subst (λ (x : Option (Caller S)). BeginsAt metrics gauges (Some c) x) (sym u.changed) begins)
