use Rattle.json_text.proofs.Names.{ap, sym, subst, Err, IsNoJson}
use Rattle.json_text.specs.Answer.{Explains}
use Rattle.json_tape.proofs.Verdicts.{explained}
use Rattle.json_tape.proofs.read_task.ReadTask.begin.Goals as goal

pub returns-in-Err-begin : goal.returns-in-Err-begin
returns-in-Err-begin c = let same = ap (λ (p : _). p.0) c.new-looks.ensures in let known = c.in-Ok.ensures in
    subst (Explains c.args.text.now) (sym c.fault_of.ensures) (explained c.args.text.now known.1 known.2 c.in-Err-begin.fault (λ e. subst IsNoJson same (c.in-Err-begin.ensures.refused (ap Err e))))
