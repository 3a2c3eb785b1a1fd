use Rattle.std.proofs.Common.{◌∙◌, ap}
use Rattle.text_faults.specs.Moves.{next}
use Rattle.text_faults.proofs.Known.{learnt}
use Rattle.text_faults.proofs.steps.learn.Goals as goal

pub returns-clause-steps : goal.returns-clause-steps
returns-clause-steps c =
    let f = c.in_ok-step.ensures in
    learnt c.args.nows.now.items c.found_step.new.nows.items c.found_step.new.steps.items f.steps.0 f.steps.1 c.args.number c.args.byte c.row.result c.args.innermost c.in_ok-step.step c.requires.inside c.ranges.byte.fits c.row.ensures f.step.0
    (f.step.1 ∙ c.next-by.ensures ∙ ap (λ n. next n c.args.innermost c.args.byte) c.now_at-now.ensures)
