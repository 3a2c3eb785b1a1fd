use Rattle.json_text.proofs.LoneChars.{means_unless}
use Rattle.json_text.proofs.laws.meant.Goals as goal

pub returns : goal.returns
returns c = means_unless
