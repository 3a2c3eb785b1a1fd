use Rattle.std.proofs.Common.{length, sym}
use Rattle.std.proofs.lemmas.Result.{err_from_is_err_and}
use Rattle.path_grammar.specs.ReadingStrings.{inside_at}
use Rattle.path_grammar.proofs.Quoted.{closes, goes_on, fails, is_open}
use Rattle.path_grammar.proofs.strings.inside.Goals as goal

pub returns-in-Some : goal.returns-in-Some
returns-in-Some c = closes c.args.quote c.args.other c.loop.out.items (length c.args.text.now) c.loop.counter c.loop.rest.now _ c.loop.invariant c.in-Some.after.now c.loop-test.true (sym c.in-Some.ensures)

pub returns-in_err-c : goal.returns-in_err-c
returns-in_err-c c =
    let p = err_from_is_err_and c.from_residual.result c.from_residual.ensures.1 in
    rw (p.1, p.2) (fails c.args.quote c.args.other c.loop.out.items (length c.args.text.now) c.loop.counter c.loop.rest.now (inside_at c.args.quote c.args.other (length c.args.text.now) c.args.text.now) c.loop.invariant c.in_err-c.field-0.0 c.loop-test.true (sym c.in_default.ensures) c.in_err-c.ensures)

pub loop-preserved : goal.loop-preserved
loop-preserved c = rw c.in_ok-push.ensures.items (goes_on c.args.quote c.args.other c.loop.out.items (length c.args.text.now) c.loop.counter c.loop.rest.now (inside_at c.args.quote c.args.other (length c.args.text.now) c.args.text.now) c.loop.invariant c.in_ok-c.after.now c.in_ok-c.c c.loop-test.true (sym c.in_default.ensures) c.in_ok-c.ensures)

pub returns : goal.returns
returns c = is_open c.args.quote c.args.other c.loop.out.items (length c.args.text.now) c.loop.counter c.loop.rest.now _ c.loop.invariant c.loop-test.false
