use Rattle.json_text.proofs.Names.{◌≡◌, ◌≤◌, ◌-◌, length, IsTrue, not, eqb, level_of}
use Rattle.json_walk.proofs.Names.{at, DuplicateCheck}
use Rattle.name_stamps.specs.Stamps.{HasSlot}
use Rattle.json_walk.proofs.WalkContainer.{MayContinue}
use Rattle.json_walk.proofs.second_stage.run.Given as goal

abbrev pub invariant-loop-k : goal.invariant-loop-k
invariant-loop-k g l = record {
  same : l.looks.0 ≡ l.fn.looks.0;
  level : level_of l.builder.opens ≡ level_of l.fn.builder.opens;
  continues : MayContinue l.fn.looks.0 l.places (at l.fn.spot l.fn.builder l.fn.looks.1 l.fn.may_exceed) l.k (level_of l.fn.builder.opens) l.builder l.looks.1 l.may_exceed;
  to : l.k ≤ length l.places;
  checked : DuplicateCheck l.fn.looks.0 l.builder l.seen;
  has_slot : IsTrue (not (eqb g.row.OBJECT 0)) → HasSlot l.builder l.slot l.seen;
}

abbrev pub decreases-loop-k : goal.decreases-loop-k
decreases-loop-k g l = length l.places - l.k
