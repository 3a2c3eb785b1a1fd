-- What is left of a page, before and behind a line; what is left of counts.
use Rattle.std.proofs.Common.{◌≡◌, ℕ, ◌+◌, ◌-◌, ◌^◌, ◌<◌, ◌≤◌, List, [], ◌∷◌, ◌++◌, Bool, true, false, refl, sym, ap, ◌∙◌, subst, append_assoc, add-one, arith, drop, length}
use Rattle.std.specs.Prelude.{zero, suc, min, sum, nat_le, if◌then◌else◌, Some, None, slice_get}
use Rattle.std.proofs.lemmas.Bool.Decides.{nat_tests}
use Rattle.std.proofs.lemmas.List.{drop_all}
use Rattle.admin_pages.specs.declared.about.About.{About}
use Rattle.admin_pages.specs.declared.counted.Metrics.{Metrics}
use Rattle.admin_pages.specs.declared.page.Gauges.{Gauges}
use Rattle.admin_pages.specs.declared.page.Page.{Page}
use Rattle.admin_pages.specs.Families.{Metric, families, rows_of}
use Rattle.admin_pages.specs.Pages.{row, rows, sheet, left, left_of, moved, moved_at, total}

at_metric : (fs : List Metric) (i : ℕ) (f : Metric) → slice_get fs i ≡ Some f → drop i fs ≡ f ∷ drop (i + 1) fs
at_metric [] i f h = absurd cc
at_metric (x ∷ xs) zero f h = grind arith
at_metric (x ∷ xs) (suc i) f h = simp add-one (simp add-one at (at_metric xs i f h))

starts : (a : About) (m : Metrics) (g : Gauges) (fs : List Metric) → left_of a m g 0 fs ≡ sheet a m g fs
starts a m g [] = refl
starts a m g (f ∷ fs) =
    let e : rows_of f.samples g.tenants - 0 ≡ rows_of f.samples g.tenants = omega arith in
    ap (λ (n : ℕ). rows a m g f 0 n ++ sheet a m g fs) e

next_row : (a : About) (m : Metrics) (g : Gauges) (f : Metric) (place : ℕ) (fs : List Metric) → place < rows_of f.samples g.tenants →
    left_of a m g place (f ∷ fs) ≡ row a m g f place ++ left_of a m g (place + 1) (f ∷ fs)
next_row a m g f place fs l =
    let count : ℕ = rows_of f.samples g.tenants in
    let e : count - place ≡ suc (count - (place + 1)) = omega arith in
    ap (λ (n : ℕ). rows a m g f place n ++ sheet a m g fs) e ∙ append_assoc (row a m g f place) (rows a m g f (place + 1) (count - (place + 1))) (sheet a m g fs)

next_metric : (a : About) (m : Metrics) (g : Gauges) (f : Metric) (place : ℕ) (fs : List Metric) → rows_of f.samples g.tenants ≤ place → left_of a m g place (f ∷ fs) ≡ left_of a m g 0 fs
next_metric a m g f place fs l =
    let e : rows_of f.samples g.tenants - place ≡ 0 = omega arith in
    ap (λ (n : ℕ). rows a m g f place n ++ sheet a m g fs) e ∙ sym (starts a m g fs)

pub row_left : (a : About) (p : Page) (f : Metric) → slice_get families p.family ≡ Some f → p.place < rows_of f.samples p.gauges.tenants →
    left a p ≡ row a p.metrics p.gauges f p.place ++ left a (record p { place = p.place + 1 })
row_left a p f h l =
    let d : drop p.family families ≡ f ∷ drop (p.family + 1) families = at_metric families p.family f h in
    ap (left_of a p.metrics p.gauges p.place) d ∙ next_row a p.metrics p.gauges f p.place (drop (p.family + 1) families) l
    ∙ ap (λ (fs : List Metric). row a p.metrics p.gauges f p.place ++ left_of a p.metrics p.gauges (p.place + 1) fs) (sym d)

pub metric_left : (a : About) (p : Page) (f : Metric) → slice_get families p.family ≡ Some f → rows_of f.samples p.gauges.tenants ≤ p.place →
    left a p ≡ left a (record p { family = p.family + 1; place = 0 })
metric_left a p f h l =
    ap (left_of a p.metrics p.gauges p.place) (at_metric families p.family f h) ∙ next_metric a p.metrics p.gauges f p.place (drop (p.family + 1) families) l

pub moved_row : (p : Page) (f : Metric) → slice_get families p.family ≡ Some f → p.place < rows_of f.samples p.gauges.tenants → moved p ≡ record p { place = p.place + 1 }
moved_row p f h l =
    let e : nat_le (rows_of f.samples p.gauges.tenants) p.place ≡ false = grind (arith, nat_tests) in
    ap (moved_at p) h ∙ ap (λ (b : Bool). if b then record p { family = p.family + 1; place = 0 } else record p { place = p.place + 1 }) e

pub moved_metric : (p : Page) (f : Metric) → slice_get families p.family ≡ Some f → rows_of f.samples p.gauges.tenants ≤ p.place → moved p ≡ record p { family = p.family + 1; place = 0 }
moved_metric p f h l =
    let e : nat_le (rows_of f.samples p.gauges.tenants) p.place ≡ true = grind (arith, nat_tests) in
    ap (moved_at p) h ∙ ap (λ (b : Bool). if b then record p { family = p.family + 1; place = 0 } else record p { place = p.place + 1 }) e

pub moved_end : (p : Page) → slice_get families p.family ≡ None → moved p ≡ p
moved_end p h = ap (moved_at p) h

pub all_counted : (counts : List ℕ) (all i : ℕ) → length counts ≤ i → all < 2 ^ 64 → min (all + sum (drop i counts)) (2 ^ 64 - 1) ≡ total counts → all ≡ total counts
all_counted counts all i l fits h =
    let e : min (all + 0) (2 ^ 64 - 1) ≡ total counts = subst (λ (xs : List ℕ). min (all + sum xs) (2 ^ 64 - 1) ≡ total counts) (drop_all i counts l) h in
    omega arith

-- a row behind what is written is off what is left
pub row_joins : (a : About) (out out' : List ℕ) (p : Page) (f : Metric) (n : ℕ) → Some f ≡ slice_get families p.family → n ≡ rows_of f.samples p.gauges.tenants → p.place < n →
    out' ≡ out ++ row a p.metrics p.gauges f p.place → out' ++ left a (record p { place = p.place + 1 }) ≡ out ++ left a p
row_joins a out out' p f n h count l e =
    let within : p.place < rows_of f.samples p.gauges.tenants = omega arith in
    ap (λ (xs : List ℕ). xs ++ left a (record p { place = p.place + 1 })) e
    ∙ append_assoc out (row a p.metrics p.gauges f p.place) (left a (record p { place = p.place + 1 }))
    ∙ ap (λ (xs : List ℕ). out ++ xs) (sym (row_left a p f (sym h) within))

-- behind a metric's last row what is left is that of the next one
pub metric_joins : (a : About) (out : List ℕ) (p : Page) (f : Metric) (n : ℕ) → Some f ≡ slice_get families p.family → n ≡ rows_of f.samples p.gauges.tenants → n ≤ p.place →
    out ++ left a (record p { family = p.family + 1; place = 0 }) ≡ out ++ left a p
metric_joins a out p f n h count l =
    let behind : rows_of f.samples p.gauges.tenants ≤ p.place = omega arith in
    ap (λ (xs : List ℕ). out ++ xs) (sym (metric_left a p f (sym h) behind))

-- behind the last metric nothing is left
pub none_left : (a : About) (p : Page) → length families ≤ p.family → left a p ≡ []
none_left a p l = ap (left_of a p.metrics p.gauges p.place) (drop_all p.family families l)
