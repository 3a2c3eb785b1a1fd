use Rattle.json_text.proofs.One.{one_tree}
use Rattle.json_text.proofs.laws.one_tree.Goals as goal

pub returns : goal.returns
returns c = one_tree
