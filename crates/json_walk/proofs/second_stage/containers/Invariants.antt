use Rattle.json_text.proofs.Names.{◌≡◌, ◌≤◌, ◌-◌, false, length, level_of}
use Rattle.json_walk.proofs.Names.{Root, Walked, at, DuplicateCheck}
use Rattle.json_walk.proofs.second_stage.containers.Given as goal

abbrev pub invariant-loop-shape : goal.invariant-loop-shape
invariant-loop-shape l = record {
  same : l.looks.0 ≡ l.fn.looks.0;
  walked : Walked l.fn.looks.0 l.places (at l.fn.spot l.fn.builder l.fn.looks.1 l.fn.may_exceed) (at l.next l.builder l.looks.1 l.may_exceed);
  to : l.next.number ≤ length l.places;
  checked : DuplicateCheck l.fn.looks.0 l.builder l.seen;
  opened : l.next.behind ≡ false → level_of l.builder.opens ≡ Root → ⊥;
}

abbrev pub decreases-loop-shape : goal.decreases-loop-shape
decreases-loop-shape l = length l.places - l.next.number
