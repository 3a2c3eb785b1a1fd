use Rattle.json_text.proofs.Names.{◌∙◌, ap, sym, subst, Err}
use Rattle.json_walk.proofs.UnderWay.{ends_refused}
use Rattle.json_text.specs.Answer.{Explains}
use Rattle.json_tape.proofs.Verdicts.{explained}
use Rattle.json_tape.proofs.progress.end.Goals as goal

pub returns-in-Err : goal.returns-in-Err
returns-in-Err c = let r = c.requires.read in let way = r.3 in
    subst (Explains c.args.text.now) (sym c.fault_of.ensures) (explained c.args.text.now r.0 r.1 c.in-Err.fault
    (λ e. ends_refused c.args.text.now way.0 way.1 c.finish.result (c.finish.ensures c.args.text.now way.0 way.1 way.2 c.requires.over) (c.in-Err.is ∙ ap Err e)))
