use Rattle.node_lists.proofs.Below.{nodes_split}
use Rattle.node_lists.proofs.laws.numbers_split_nodes.Goals as goal

pub returns : goal.returns
returns c = nodes_split
