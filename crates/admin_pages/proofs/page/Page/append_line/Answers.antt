use Rattle.admin_pages.specs.Families.{shown}
use Rattle.admin_pages.proofs.Lines.{metric_joins, row_joins}
use Rattle.admin_pages.proofs.page.Page.append_line.Goals as goal

pub returns-then-self-rows_of-clause-text : goal.returns-then-self-rows_of-clause-text
returns-then-self-rows_of-clause-text c =
    metric_joins c.args.about.now c.args.out.now.items c.args.self.now (shown c.in-Some.family) c.rows_of.result c.in-Some.ensures.metric c.rows_of.ensures c.if-self-rows_of.true

pub returns-clause-text : goal.returns-clause-text
returns-clause-text c =
    row_joins c.args.about.now c.args.out.now.items c.append_row.new.out.items c.args.self.now (shown c.in-Some.family) c.rows_of.result c.in-Some.ensures.metric
    c.rows_of.ensures c.if-self-rows_of.false c.in_ok-append_row.ensures
