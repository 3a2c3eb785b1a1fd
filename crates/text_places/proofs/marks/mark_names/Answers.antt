use Rattle.json_text.proofs.Names.{rules}
use Rattle.text_places.proofs.Members.{quoted}
use Rattle.text_places.proofs.marks.mark_names.Goals as goal

pub mark_for-requires : goal.mark_for-requires
mark_for-requires c = λ r. (let j = c.requires.spelt in quoted c.args.text.now c.args.tape.now j.0 j.1 (c.requires.stands j.0 j.1) c.loop-n.n c.entry.result (search rules) c.entry.ensures r)
