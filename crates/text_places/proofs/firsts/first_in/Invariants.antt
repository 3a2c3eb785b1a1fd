use Rattle.json_text.proofs.Names.{◌-◌, ◌≤◌, length, IsText, Tree}
use Rattle.text_places.proofs.Seeking.{Here}
use Rattle.text_places.proofs.firsts.first_in.Given as goal

abbrev pub invariant-loop-at : goal.invariant-loop-at
invariant-loop-at l = (l.level ≤ l.at) × ((t : Tree) → IsText l.text t → Here l.sought l.text t l.level l.at)

abbrev pub decreases-loop-at : goal.decreases-loop-at
decreases-loop-at l = length l.text - l.at
