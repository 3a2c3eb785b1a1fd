use Rattle.std.proofs.Common.{◌<◌, subst}
use Rattle.structural_index.proofs.Utf8Runs.{low_bytes, ascii_read, run_ahead, run_read}
use Rattle.structural_index.proofs.characters.read_characters.Goals.{else-high_bytes-ne0-via-then-high_bytes-ne0+else-found-from, else-high_bytes-ne0-via-else-high_bytes-ne0}
use Rattle.structural_index.proofs.characters.read_characters.Goals as goal

pub returns-then-found-from : goal.returns-then-found-from
returns-then-found-from c bytes known = run_read c.args.text.now c.args.from c.args.found.now c.read_run-run.result known c.read_run-run.ensures c.requires.within c.requires.whole c.if-found-from.true

pub returns-else-high_bytes-ne0 : goal.returns-else-high_bytes-ne0
returns-else-high_bytes-ne0 c bytes known = elim c.else-high_bytes-ne0.branch [
  | else-high_bytes-ne0-via-then-high_bytes-ne0+else-found-from w ↦ run_ahead c.args.text.now c.args.from c.args.found.now known c.requires.whole w.if-found-from.false
  | else-high_bytes-ne0-via-else-high_bytes-ne0 w ↦
      ascii_read c.args.text.now c.args.from c.args.found.now known (λ k h. subst (λ b. b < 128) (bytes k h) (low_bytes c.args.lanes _ c.high_bytes.ensures w.if-high_bytes-ne0.false k h))
]
