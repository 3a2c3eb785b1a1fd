use Rattle.admin_pages.proofs.Sums.{next_added}
use Rattle.admin_pages.proofs.counted.add_each.Goals as goal

pub loop-place-preserved : goal.loop-place-preserved
loop-place-preserved c =
    next_added c.args.sums.now c.loop-place.sums c.args.more.now c.loop-place.place c.saturating_add.result c.loop-place.invariant c.loop-place-test.true c.requires c.saturating_add.ensures
