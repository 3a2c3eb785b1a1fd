use Rattle.name_stamps.proofs.CheckKept.{check_suspect}
use Rattle.name_stamps.proofs.seen.SeenNames.take_slot.Goals as goal

pub returns-clause-checked : goal.returns-clause-checked
returns-clause-checked c = λ text t. check_suspect text c.args.self.now c.add_suspect.new.self c.number-number.result c.in_ok-add_suspect.ensures c.args.builder.now t
