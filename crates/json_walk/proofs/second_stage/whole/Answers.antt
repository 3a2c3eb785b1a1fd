use Rattle.json_text.proofs.Names.{◌∙◌, ℕ, List, length, get_or, ap, arith, nat_tests}
use Rattle.json_walk.proofs.Names.{places}
use Rattle.json_walk.proofs.Listed.{in_text, closes_before, no_blank, near, place_in}
use Rattle.json_walk.proofs.WalkContainer.{whole_walks, spot_one}
use Rattle.json_walk.proofs.CheckSteps.{whole_checked}
use Rattle.json_walk.proofs.second_stage.whole.Goals as goal

pub value-requires-clause-in_text : goal.value-requires-clause-in_text
value-requires-clause-in_text c = in_text c.args.looks.now.0 c.args.places.now c.requires.listed 0 (let e = c.if-is_empty.ensures in grind (arith, nat_tests))

pub value-requires-clause-near : goal.value-requires-clause-near
value-requires-clause-near c = grind (arith, places, place_in)

pub value-requires-clause-closes : goal.value-requires-clause-closes
value-requires-clause-closes c = let text = c.args.looks.now.0 in
    closes_before text c.args.places.now c.requires.listed 0 c.place_behind-next.result (let e = c.if-is_empty.ensures in grind (arith, nat_tests))
    (c.place_behind-next.ensures ∙ ap (λ n. get_or c.args.places.now 1 n) c.length.ensures ∙ ap (λ (ps : List ℕ). get_or ps 1 (length text)) c.requires.listed.list)

pub value-requires-clause-no_blank : goal.value-requires-clause-no_blank
value-requires-clause-no_blank c = no_blank c.args.looks.now.0 c.args.places.now c.requires.listed 0 (let e = c.if-is_empty.ensures in grind (arith, nat_tests))

pub put-requires-clause-near : goal.put-requires-clause-near
put-requires-clause-near c = near c.args.looks.now.0 c.args.places.now c.requires.listed 0 (let e = c.if-is_empty.ensures in grind (arith, nat_tests))

pub returns-clause-walks : goal.returns-clause-walks
returns-clause-walks c =
    (whole_walks c.args.looks.now.0 c.args.places.now c.requires.listed c.args.looks.now.1 c.value.new.looks.1 c.args.may_exceed.now c.value.new.may_exceed c.args.builder.now c.put.new.builder c.in-Some.lexed c.put.result c.first_spot.result (let e = c.if-is_empty.ensures in grind (arith, nat_tests))
    c.in-Some.ensures.value c.in-Some.ensures.marked c.in-Some.ensures.looked c.put.ensures c.first_spot.ensures).0

pub returns-clause-opened : goal.returns-clause-opened
returns-clause-opened c =
    (whole_walks c.args.looks.now.0 c.args.places.now c.requires.listed c.args.looks.now.1 c.value.new.looks.1 c.args.may_exceed.now c.value.new.may_exceed c.args.builder.now c.put.new.builder c.in-Some.lexed c.put.result c.first_spot.result (let e = c.if-is_empty.ensures in grind (arith, nat_tests))
    c.in-Some.ensures.value c.in-Some.ensures.marked c.in-Some.ensures.looked c.put.ensures c.first_spot.ensures).1

pub returns-clause-further : goal.returns-clause-further
returns-clause-further c = spot_one c.args.looks.now.0 c.args.places.now c.requires.listed c.put.result c.in-Some.lexed c.first_spot.result (let e = c.if-is_empty.ensures in grind (arith, nat_tests)) c.first_spot.ensures

pub returns-clause-checked : goal.returns-clause-checked
returns-clause-checked c = whole_checked c.args.looks.now.0 _ c.in-Some.lexed c.args.builder.now c.put.new.builder c.put.result c.first_spot.result c.put.ensures c.first_spot.ensures
