use Rattle.json_tape.proofs.Limits.{bad_none}
use Rattle.json_walk.proofs.Marks.{none_beyond}
use Rattle.json_tape.proofs.judge.breaks_limit.Goals as goal

pub returns-else-reading : goal.returns-else-reading
returns-else-reading c =
    ((λ x. cc), (λ (t, part, h, p, q). absurd (bad_none c.args.text.now c.args.reading.now.tape t h (c.requires.stands t h) (none_beyond c.args.text.now c.args.reading.now.tape t h (c.requires.stands t h) (c.requires.numbers c.if-reading.false)) (part, p, q))))
