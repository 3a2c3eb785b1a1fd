use Rattle.json_walk.proofs.Counting as counting
use Rattle.json_walk.proofs.laws.source_bytes_are_the_trees.Goals as goal

pub returns : goal.returns
returns c text t x = (counting.text_counts text t x).bytes_are
