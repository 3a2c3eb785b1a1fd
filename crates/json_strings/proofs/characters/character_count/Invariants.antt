use Rattle.json_text.proofs.Names.{◌≡◌, ◌≤◌, ◌-◌, length, take, count_by}
use Rattle.json_strings.specs.Spelling.{begins}
use Rattle.json_strings.proofs.characters.character_count.Given as goal

abbrev pub invariant-loop-k : goal.invariant-loop-k
invariant-loop-k l = (l.k ≤ length l.bytes) × (l.count ≡ count_by begins (take l.k l.bytes))

abbrev pub decreases-loop-k : goal.decreases-loop-k
decreases-loop-k l = length l.bytes - l.k

abbrev pub invariant-loop-k-2 : goal.invariant-loop-k-2
invariant-loop-k-2 l = (l.k ≤ length l.bytes) × (l.count ≡ count_by begins (take l.k l.bytes))

abbrev pub decreases-loop-k-2 : goal.decreases-loop-k-2
decreases-loop-k-2 l = length l.bytes - l.k
