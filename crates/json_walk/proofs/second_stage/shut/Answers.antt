use Rattle.json_text.proofs.Names.{None, subst, Closing, step, Took}
use Rattle.json_walk.proofs.Names.{standing, Next}
use Rattle.json_walk.proofs.CheckSteps.{close_checked, on_both}
use Rattle.json_walk.proofs.second_stage.shut.Goals as goal

pub returns-in-Ok-clause-checked : goal.returns-in-Ok-clause-checked
returns-in-Ok-clause-checked g c =
    on_both c.close.result c.args.builder.now c.args.builder.now c.close.new.self c.args.seen.now c.suspect_if_wide.new.seen c.in-Ok.ensures.checked
    (close_checked c.args.builder.now c.close.new.self _ c.args.place c.suspect_if_wide.new.seen c.close.result c.requires.level c.in-Ok.ensures.few
    (subst (λ x. Took (step (Closing x c.args.place) (standing c.args.builder.now Next None)) c.close.result (standing c.close.new.self Next None)) c.shape.ensures c.close.ensures.took))
