use Rattle.json_text.proofs.Names.{sym, arith}
use Rattle.text_places.proofs.Escaped.{no_first, none_lone, one_more, found, has, has_not}
use Rattle.text_places.proofs.surrogates.lone_surrogate.Goals as goal

pub loop-at-init : goal.loop-at-init
loop-at-init c = (omega arith, no_first c.args.text.now)

pub loop-at-preserved : goal.loop-at-preserved
loop-at-preserved c = let i = c.loop-at.invariant in (omega arith, one_more c.args.text.now c.loop-at.at (sym c.if-is_lone.ensures) i.1)

pub returns-then-is_lone-clause-found : goal.returns-then-is_lone-clause-found
returns-then-is_lone-clause-found c = let i = c.loop-at.invariant in found c.args.text.now c.loop-at.at i.0 (sym c.if-is_lone.ensures) i.1

pub returns-then-is_lone-clause-told : goal.returns-then-is_lone-clause-told
returns-then-is_lone-clause-told c = λ j. ((λ f. has c.args.text.now c.loop-at.at j (sym c.if-is_lone.ensures)), (λ a e. cc))

pub returns-clause-none : goal.returns-clause-none
returns-clause-none c = λ e. none_lone c.args.text.now c.loop-at.at (let t = c.loop-at-test.false in omega arith) c.loop-at.invariant.1

pub returns-clause-told : goal.returns-clause-told
returns-clause-told c = λ j. ((λ f. absurd (f cc)), (λ a. absurd (has_not c.args.text.now j (none_lone c.args.text.now c.loop-at.at (let t = c.loop-at-test.false in omega arith) c.loop-at.invariant.1) a)))
