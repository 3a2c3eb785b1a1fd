use Rattle.std.proofs.Common.{◌≡◌, take}
use Rattle.admin_pages.specs.Counting.{added_each}
use Rattle.admin_pages.proofs.counted.add_each.Given as goal

abbrev pub invariant-loop-place : goal.invariant-loop-place
invariant-loop-place l = l.sums ≡ added_each l.fn.sums (take l.place l.more)
