use Rattle.json_text.proofs.Names.{refl, sym, subst, Ok, Err, arith}
use Rattle.json_walk.proofs.Names.{at, DuplicateCheck}
use Rattle.json_walk.proofs.WalkSteps.{here}
use Rattle.json_walk.proofs.WalkContainer.{walked_small, small_state, walks_same}
use Rattle.json_walk.proofs.second_stage.containers.Goals as goal

pub loop-shape-init : goal.loop-shape-init
loop-shape-init c = record { same = refl; walked = here c.args.looks.now.0 c.args.places.now _; to = c.requires.inside; checked = c.requires.checked; opened = c.requires.opened }

pub children-requires-clause-small : goal.children-requires-clause-small
children-requires-clause-small c = grind (arith, small_state, walked_small)

pub children-requires-clause-checked : goal.children-requires-clause-checked
children-requires-clause-checked c = subst (λ b. DuplicateCheck b c.loop-shape.builder c.loop-shape.seen) (sym c.loop-shape.invariant.same) c.loop-shape.invariant.checked

pub loop-shape-preserved : goal.loop-shape-preserved
loop-shape-preserved c = let kept = c.loop-shape.invariant in let found = c.in-Ok.ensures in grind (
  arith,
  walks_same c.args.looks.now.0 c.args.places.now c.requires.listed c.loop-shape.looks.0 _ (at c.loop-shape.next c.loop-shape.builder c.loop-shape.looks.1 c.loop-shape.may_exceed) c.children.new.looks.1 (Ok c.in-Ok.spot) c.children.new.builder c.children.new.may_exceed kept.same kept.walked found.walks,
)

pub returns-in-Err-clause-walks : goal.returns-in-Err-clause-walks
returns-in-Err-clause-walks c = let kept = c.loop-shape.invariant in
    walks_same c.args.looks.now.0 c.args.places.now c.requires.listed c.loop-shape.looks.0 _ (at c.loop-shape.next c.loop-shape.builder c.loop-shape.looks.1 c.loop-shape.may_exceed) c.children.new.looks.1 (Err c.in-Err.fault) c.children.new.builder c.children.new.may_exceed kept.same kept.walked c.in-Err.ensures.walks
