use Rattle.json_walk.proofs.Bridge as bridge
use Rattle.json_walk.proofs.laws.strings_end_at_quotes.Goals as goal

pub returns : goal.returns
returns c text i j vs rest cs e h o l = bridge.string_ends text i j vs rest cs e h o l
