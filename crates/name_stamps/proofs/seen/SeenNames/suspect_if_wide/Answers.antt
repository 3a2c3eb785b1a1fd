use Rattle.name_stamps.proofs.CheckKept.{check_on}
use Rattle.name_stamps.proofs.seen.SeenNames.suspect_if_wide.Goals as goal

pub returns-clause-checked : goal.returns-clause-checked
returns-clause-checked c = check_on c.args.self.now c.add_suspect.new.self c.number.result c.args.builder.now c.add_suspect.result c.add_suspect.ensures
