use Rattle.std.proofs.Common.{◌≡◌, ◌+◌, ◌-◌, ◌^◌, ◌<◌, drop, min, sum}
use Rattle.admin_pages.specs.Pages.{total}
use Rattle.admin_pages.proofs.page.total.Given as goal

abbrev pub invariant-loop-count : goal.invariant-loop-count
invariant-loop-count l = (l.all < 2 ^ 64) × (min (l.all + sum (drop l.count-index l.counts)) (2 ^ 64 - 1) ≡ total l.counts)
