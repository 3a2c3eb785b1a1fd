use Rattle.admin_pages.proofs.Lines.{all_counted}
use Rattle.admin_pages.proofs.page.total.Goals as goal

pub returns : goal.returns
returns c = all_counted c.args.counts.now c.loop-count.all c.loop-count.count-index c.loop-count-test.false c.loop-count.invariant.0 c.loop-count.invariant.1
