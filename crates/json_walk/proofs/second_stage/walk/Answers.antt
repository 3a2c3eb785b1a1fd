use Rattle.json_text.proofs.Names.{◌≡◌, ◌<◌, ◌+◌, length, ap, subst, sym, arith, Err, IsNoJson}
use Rattle.json_walk.proofs.Names.{NotJson}
use Rattle.json_walk.proofs.Listed.{number_below}
use Rattle.json_walk.specs.UnderWay.{IsUnderWay, Ends, left}
use Rattle.json_walk.proofs.WalkContainer.{if_ok}
use Rattle.json_walk.proofs.UnderWay.{ends_reading, ends_refused}
use Rattle.json_walk.proofs.second_stage.walk.Goals.{In-Ok, After-finish}
use Rattle.json_walk.proofs.second_stage.walk.Goals as goal

-- behind the first token
first : (c : In-Ok) → IsUnderWay c.begin.new.looks.0 c.args.index.now c.args.looks.now.1 c.begin.new.looks.1 c.new-seen.result c.in-Ok.way
first c = subst (λ t. IsUnderWay t c.args.index.now c.args.looks.now.1 c.begin.new.looks.1 c.new-seen.result c.in-Ok.way) (sym c.in-Ok.ensures.same)
    (c.in-Ok.ensures.on_way c.new-seen.result (c.new-seen.ensures c.args.looks.now.0))

-- at the end
last : (c : After-finish) → IsUnderWay c.begin.new.looks.0 c.args.index.now c.args.looks.now.1 c.begin.new.looks.1 c.new-seen.result c.in-Ok.way
    → IsUnderWay c.args.looks.now.0 c.args.index.now c.args.looks.now.1 c.go_on.new.looks.1 c.go_on.new.seen c.in-Ok-go_on.last
last c u = subst (λ t. IsUnderWay t c.args.index.now c.args.looks.now.1 c.go_on.new.looks.1 c.go_on.new.seen c.in-Ok-go_on.last) c.in-Ok.ensures.same
    (c.in-Ok-go_on.ensures.on_way c.args.looks.now.1 u)

ended : (c : After-finish) → IsUnderWay c.begin.new.looks.0 c.args.index.now c.args.looks.now.1 c.begin.new.looks.1 c.new-seen.result c.in-Ok.way
    → Ends c.args.looks.now.0 c.args.looks.now.1 c.go_on.new.looks.1 c.finish.result
ended c first = let u = last c first in let few = number_below c.args.looks.now.0 c.args.index.now.places.items u.listed (length c.args.index.now.places.items) (omega arith) in let short = c.requires.short in
    c.finish.ensures c.args.looks.now.0 c.args.looks.now.1 c.go_on.new.looks.1 u (c.in-Ok-go_on.ensures.over (let below : left c.args.index.now c.in-Ok.way < left c.args.index.now c.in-Ok-go_on.last + 18446744073709551615 = omega (arith, few, short) in below))

pub returns-in-Err-clause-refused : goal.returns-in-Err-clause-refused
returns-in-Err-clause-refused c = λ e. c.in-Err.ensures.refused (let same : c.in-Err.fault ≡ NotJson = cc in ap Err same)

pub go_on-requires : goal.go_on-requires
go_on-requires c = (c.args.looks.now.1, first (goal.at.go_on-requires c).In-Ok)

pub returns-in-Ok-go_on-clause-spelt : goal.returns-in-Ok-go_on-clause-spelt
returns-in-Ok-go_on-clause-spelt c = let at = goal.at.returns-in-Ok-go_on-clause-spelt c in if_ok c.finish.result (λ reading h. h.spelt) (ends_reading _ _ _ c.finish.result (ended at.After-finish (first at.In-Ok)))

pub returns-in-Ok-go_on-clause-refused : goal.returns-in-Ok-go_on-clause-refused
returns-in-Ok-go_on-clause-refused c = let at = goal.at.returns-in-Ok-go_on-clause-refused c in λ e. ends_refused _ _ _ c.finish.result (ended at.After-finish (first at.In-Ok)) e

pub returns-in-Err-go_on-clause-refused : goal.returns-in-Err-go_on-clause-refused
returns-in-Err-go_on-clause-refused c = λ e. subst IsNoJson c.in-Ok.ensures.same (c.in-Err-go_on.ensures.refused (let same : c.in-Err-go_on.fault ≡ NotJson = cc in ap Err same))
