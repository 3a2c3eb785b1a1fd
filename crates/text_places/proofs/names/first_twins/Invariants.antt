use Rattle.json_text.proofs.Names.{Tree, IsText}
use Rattle.std.specs.BTreeMap as tree
use Rattle.text_places.proofs.Repeated.{Keeps, order}
use Rattle.text_places.proofs.names.first_twins.Given as goal

abbrev pub invariant-loop-n : goal.invariant-loop-n
invariant-loop-n l = (t : Tree) → IsText l.text t → Keeps l.text l.tape l.marks.items t l.n (λ q. tree.get order l.seen q)
