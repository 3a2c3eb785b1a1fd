use Rattle.std.proofs.Common.{◌+◌, sym, subst}
use Rattle.structural_index.specs.Blocks.{after_escape, AreJudged}
use Rattle.structural_index.proofs.JudgedEscapes.{block_judged, no_escapes}
use Rattle.structural_index.proofs.escapes.judge.Goals as goal

pub returns-then-escapes-ne0 : goal.returns-then-escapes-ne0
returns-then-escapes-ne0 c bits before = subst (AreJudged c.args.text.now (c.args.from + 64)) (sym c.judge_all.ensures) (block_judged c.args.text.now c.args.from c.args.escapes c.args.found.now bits before)

pub returns-else-escapes-ne0 : goal.returns-else-escapes-ne0
returns-else-escapes-ne0 c bits before = subst (AreJudged c.args.text.now (c.args.from + 64)) (no_escapes (after_escape c.args.text.now) c.args.found.now c.args.from c.args.escapes c.if-escapes-ne0.false) (block_judged c.args.text.now c.args.from c.args.escapes c.args.found.now bits before)
