use Rattle.path_types.proofs.Numbers as numbers
use Rattle.path_types.proofs.laws.judges_numbers.Goals as goal

pub returns : goal.returns
returns c = numbers.judges_numbers c.reads_one_way.ensures
