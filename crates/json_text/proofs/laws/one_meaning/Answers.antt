use Rattle.json_text.proofs.Meanings.{meaning_is}
use Rattle.json_text.proofs.laws.one_meaning.Goals as goal

pub returns : goal.returns
returns c = λ characters scalars h. meaning_is h
