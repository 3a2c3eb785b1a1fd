use Rattle.json_walk.proofs.Names.{Walked, point, standing, Value}
use Rattle.std.proofs.Common.{◌+◌, ℕ, List, None, Some, sym, get_or, subst, ap, arith}
use Rattle.json_walk.proofs.Listed.{in_text, closes_before, next_is}
use Rattle.json_walk.proofs.WalkSteps.{looks_paid, name_and_colon, no_colon_halts}
use Rattle.json_walk.proofs.second_stage.named.Goals as goal

pub name-requires-clause-in_text : goal.name-requires-clause-in_text
name-requires-clause-in_text c = in_text c.args.looks.now.0 c.args.places.now c.requires.listed c.args.k (omega (arith, c.requires.inside))

pub name-requires-clause-near : goal.name-requires-clause-near
name-requires-clause-near c = let l = in_text c.args.looks.now.0 c.args.places.now c.requires.listed (c.args.k + 1) c.requires.inside in omega (arith, l)

pub name-requires-clause-closes : goal.name-requires-clause-closes
name-requires-clause-closes c =
    closes_before c.args.looks.now.0 c.args.places.now c.requires.listed c.args.k _ (omega (arith, c.requires.inside)) (next_is c.args.looks.now.0 c.args.places.now c.requires.listed (c.args.k + 1) 0 c.requires.inside)

pub returns-in-Some-clause-named : goal.returns-in-Some-clause-named
returns-in-Some-clause-named c = λ b w exceeds asks.
    let bytes = c.args.looks.now.0 in let items = c.args.places.now in
    let k = c.args.k in let counted = ap (λ (p : List ℕ × ℕ). p.1) c.at.ensures.counted in
    let same = ap (λ (b : List ℕ). get_or b (get_or items (k + 1) 0) 0) c.name.ensures.same in
    let paid = looks_paid c.in-Some.name.passed c.args.looks.now.1 c.name.new.looks.1 c.at.new.self.1 c.stamped.new.looks.1 c.in-Some.name.source.len c.in-Some.ensures.looked c.in-Some.ensures.quick (omega (arith, counted)) c.stamped.ensures.looked c.stamped.ensures.unlooked in
    subst (λ x. Walked bytes items (point k (standing b w None) c.args.looks.now.1 exceeds) (point (k + 2) (standing b Value (Some x)) c.stamped.new.looks.1 exceeds)) (sym c.stamped.ensures.source)
    (name_and_colon bytes items c.requires.listed k c.args.looks.now.1 c.stamped.new.looks.1 exceeds b w c.in-Some.name.source c.requires.inside asks c.in-Some.ensures.name (omega (arith, same, c.at.ensures.value, c.if-at-eq58.true)) paid)

pub returns-in_default-clause-named : goal.returns-in_default-clause-named
returns-in_default-clause-named c = λ b w exceeds asks.
    let bytes = c.args.looks.now.0 in let items = c.args.places.now in
    let k = c.args.k in let same = ap (λ (b : List ℕ). get_or b (get_or items (k + 1) 0) 0) c.name.ensures.same in
    no_colon_halts bytes items c.requires.listed k c.args.looks.now.1 c.name.new.looks.1 exceeds b w c.in-Some.name.source c.requires.inside asks c.in-Some.ensures.name (omega (arith, c.in-Some.ensures.looked)) (λ e. omega (arith, same, c.at.ensures.value, c.if-at-eq58.false, e))
