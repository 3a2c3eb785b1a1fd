use Rattle.json_text.proofs.Names.{sym, ◌∙◌, arith}
use Rattle.text_places.proofs.Escaped.{run_more, run_ends, escaped_is}
use Rattle.text_places.proofs.surrogates.is_escaped.Goals.{then-loop-start-test+else-byte-eq92, else-loop-start-test}
use Rattle.text_places.proofs.surrogates.is_escaped.Goals as goal

pub loop-start-preserved : goal.loop-start-preserved
loop-start-preserved c = let i = c.loop-start.invariant in (omega arith, run_more c.args.text.now c.args.at c.loop-start.start c.loop-start-test.true i.0 (sym c.byte.ensures ∙ c.if-byte-eq92.true) i.1)

pub returns : goal.returns
returns c = escaped_is c.args.text.now c.args.at c.loop-start.start c.loop-start.invariant.1 (elim c.loop-start-test.branch [
  | then-loop-start-test+else-byte-eq92 w ↦ run_ends c.args.text.now c.loop-start.start (λ p b. w.if-byte-eq92.false (w.byte.ensures ∙ b))
  | else-loop-start-test w ↦ run_ends c.args.text.now c.loop-start.start (λ p b. (let q = w.loop-start-test.false in omega arith))
])
