use Rattle.json_text.proofs.Names.{◌≡◌, ℕ, ◌≤◌, List, length, ap, subst, arith}
use Rattle.json_walk.proofs.Names.{NotJson, Halts, Walked, at, DuplicateCheck}
use Rattle.json_walk.specs.UnderWay.{spot_of}
use Rattle.json_walk.proofs.UnderWay.{way_small, went_on, way_halts, share_walked, share_halts, fault_halts}
use Rattle.json_walk.proofs.second_stage.go_on.Goals.{After-as_slice}
use Rattle.json_walk.proofs.second_stage.go_on.Goals as goal

bytes : (c : After-as_slice) → c.batch-batch.result.0 ≡ c.args.looks.now.0
bytes c = ap (λ (p : List ℕ × ℕ). p.0) c.batch-batch.ensures

none : (c : After-as_slice) → c.batch-batch.result.1 ≡ 0
none c = ap (λ (p : List ℕ × ℕ). p.1) c.batch-batch.ensures

places : (c : After-as_slice) → c.as_slice.result.now ≡ c.args.index.now.places.items
places c = grind arith

pub containers-last-requires-clause-small : goal.containers-last-requires-clause-small
containers-last-requires-clause-small c = way_small c.args.looks.now.0 c.args.index.now c.requires.0 c.args.looks.now.1 c.args.seen.now c.args.begun c.requires.1

pub returns-in-Ok-clause-on_way : goal.returns-in-Ok-clause-on_way
returns-in-Ok-clause-on_way c = λ before u.
    let b = (goal.at.returns-in-Ok-clause-on_way c).After-as_slice in let text = c.args.looks.now.0 in let items = c.args.index.now.places.items in
    let settled = ap (λ (p : List ℕ × ℕ). p.1) c.settle.ensures in
    let from = spot_of c.args.begun in let old = c.args.begun.builder in let new = c.containers-last.new.builder in let taken = c.containers-last.new.looks.1 in
    let mark = c.args.begun.may_exceed in let mark' = c.containers-last.new.may_exceed in
    let walks = subst (λ p. Walked text p (at from old c.batch-batch.result.1 mark) (at c.in-Ok.spot new taken mark')) (places b)
    (subst (λ t. Walked t c.as_slice.result.now (at from old c.batch-batch.result.1 mark) (at c.in-Ok.spot new taken mark')) (bytes b) c.in-Ok.ensures.walks) in
    went_on text c.args.index.now before c.args.looks.now.1 c.settle.new.self.1 c.args.seen.now c.containers-last.new.seen c.args.begun _ u
    (share_walked text items from c.in-Ok.spot old new c.batch-batch.result.1 taken c.args.looks.now.1 c.settle.new.self.1 mark mark' (none b) (omega (arith, settled)) walks)
    (subst (λ (p : List ℕ). c.in-Ok.spot.number ≤ length p) (places b) c.in-Ok.ensures.inside)
    c.in-Ok.ensures.opened
    (subst (λ t. DuplicateCheck t new c.containers-last.new.seen) (bytes b) c.in-Ok.ensures.checked)

pub returns-in-Err-clause-refused : goal.returns-in-Err-clause-refused
returns-in-Err-clause-refused c = λ e.
    let b = (goal.at.returns-in-Err-clause-refused c).After-as_slice in let text = c.args.looks.now.0 in let items = c.args.index.now.places.items in
    let from = spot_of c.args.begun in let old = c.args.begun.builder in let mark = c.args.begun.may_exceed in
    let halts = fault_halts c.batch-batch.result.0 c.as_slice.result.now (at from old c.batch-batch.result.1 mark) c.in-Err.fault c.containers-last.new.builder c.containers-last.new.looks.1 c.containers-last.new.may_exceed (let f : c.in-Err.fault ≡ NotJson = cc in f) c.in-Err.ensures.walks in
    way_halts text c.args.index.now c.requires.0 c.args.looks.now.1 c.args.seen.now c.args.begun c.requires.1
    (share_halts text items from old c.batch-batch.result.1 c.args.looks.now.1 mark (none b)
    (subst (λ p. Halts text p (at from old c.batch-batch.result.1 mark)) (places b) (subst (λ t. Halts t c.as_slice.result.now (at from old c.batch-batch.result.1 mark)) (bytes b) halts)))
