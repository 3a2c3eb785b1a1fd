use Rattle.std.proofs.Common.{sym, ◌∙◌, arith}
use Rattle.structural_index.specs.Blocks.{after_escape}
use Rattle.structural_index.proofs.JudgedEscapes.{one_escape, no_escapes}
use Rattle.structural_index.proofs.escapes.judge_all.Goals as goal

pub loop-rest-preserved : goal.loop-rest-preserved
loop-rest-preserved c = let some = c.loop-rest-test.true in let one = one_escape (after_escape c.args.text.now) c.loop-rest.found c.args.from c.loop-rest.rest (omega (arith, some)) c.loop-rest.auto.rest-fits.fits in grind (arith, one, c.after.ensures, c.loop-rest.invariant)

pub returns : goal.returns
returns c = sym (no_escapes (after_escape c.args.text.now) c.loop-rest.found c.args.from c.loop-rest.rest c.loop-rest-test.false) ∙ c.loop-rest.invariant
