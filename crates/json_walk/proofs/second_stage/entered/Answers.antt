use Rattle.std.proofs.Common.{◌+◌, ℕ, List, sym, ap, refl, arith}
use Rattle.json_walk.proofs.Listed.{in_text}
use Rattle.json_walk.proofs.WalkContainer.{over_halts, closed_entered, first_entered, comma_entered, none_entered}
use Rattle.json_walk.proofs.second_stage.entered.Goals as goal

pub returns-then-spot-places-clause-entered : goal.returns-then-spot-places-clause-entered
returns-then-spot-places-clause-entered g c = search (arith, over_halts)

pub at-sign-requires : goal.at-sign-requires
at-sign-requires g c = in_text c.args.looks.now.0 c.args.places.now c.requires.listed c.args.spot.number (omega (arith, c.if-spot-places.false))

pub returns-then-sign-ending-clause-entered : goal.returns-then-sign-ending-clause-entered
returns-then-sign-ending-clause-entered g c = grind (arith, closed_entered)

pub returns-then-not-spot-clause-entered : goal.returns-then-not-spot-clause-entered
returns-then-not-spot-clause-entered g c = λ exceeds.
    let k = c.args.spot.number in
    first_entered c.args.looks.now.0 c.args.places.now c.requires.listed k (k + 1) c.args.looks.now.1 c.at-sign.new.self.1 exceeds c.args.spot.behind c.args.builder.now _ (sym c.if-not-spot.true) (omega arith) c.requires.level (λ e. omega (arith, c.if-sign-ending.false, c.ending.ensures, c.at-sign.ensures.value, e)) (omega (arith, ap (λ (p : List ℕ × ℕ). p.1) c.at-sign.ensures.counted))

pub returns-then-sign-eq44-clause-entered : goal.returns-then-sign-eq44-clause-entered
returns-then-sign-eq44-clause-entered g c = λ exceeds.
    let k = c.args.spot.number in
    comma_entered c.args.looks.now.0 c.args.places.now c.requires.listed k (k + 1) c.args.looks.now.1 c.at-sign.new.self.1 exceeds c.args.spot.behind c.args.builder.now _ (sym c.if-not-spot.false) refl (omega (arith, c.if-spot-places.false)) c.requires.level (omega (arith, c.if-sign-eq44.true, c.at-sign.ensures.value)) (omega (arith, ap (λ (p : List ℕ × ℕ). p.1) c.at-sign.ensures.counted))

pub returns-else-sign-eq44-clause-entered : goal.returns-else-sign-eq44-clause-entered
returns-else-sign-eq44-clause-entered g c = λ exceeds.
    let k = c.args.spot.number in
    none_entered c.args.looks.now.0 c.args.places.now c.requires.listed k c.args.looks.now.1 exceeds c.args.spot.behind c.args.builder.now _ (sym c.if-not-spot.false) (omega (arith, c.if-spot-places.false)) c.requires.level (λ e. omega (arith, c.if-sign-eq44.false, c.at-sign.ensures.value, e)) (λ e. omega (arith, c.if-sign-ending.false, c.ending.ensures, c.at-sign.ensures.value, e))
