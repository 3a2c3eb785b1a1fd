use Rattle.json_walk.proofs.Counting as counting
use Rattle.json_walk.proofs.laws.places_are_tokens.Goals as goal

pub returns : goal.returns
returns c text t x = (counting.text_counts text t x).places_are
