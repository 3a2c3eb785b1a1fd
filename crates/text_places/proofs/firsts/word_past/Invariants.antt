use Rattle.json_text.proofs.Names.{◌≡◌, ◌-◌, ◌≤◌, length, drop, atom_end}
use Rattle.text_places.proofs.firsts.word_past.Given as goal

abbrev pub invariant-loop-at : goal.invariant-loop-at
invariant-loop-at l = (l.start ≤ l.at) × (l.at ≤ length l.text) × (atom_end l.at (drop l.at l.text) ≡ atom_end l.start (drop l.start l.text))

abbrev pub decreases-loop-at : goal.decreases-loop-at
decreases-loop-at l = length l.text - l.at
