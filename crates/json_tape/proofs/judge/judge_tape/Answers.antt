use Rattle.json_text.specs.declared.tape.TextFault.TheVariants.{NumberLimit}
use Rattle.std.proofs.Common.{arith}
use Rattle.json_tape.proofs.Verdicts.{refused_deep, not_deep, refused_number, refused_lone, refused_twice, faultless, applies_at, applies_not}
use Rattle.json_tape.proofs.Lones.{lone_applies, not_lone}
use Rattle.json_tape.proofs.judge.judge_tape.Goals as goal

pub returns-then-reading-gt-DEPTH_LIMIT : goal.returns-then-reading-gt-DEPTH_LIMIT
returns-then-reading-gt-DEPTH_LIMIT c = refused_deep c.args.text.now c.args.reading.now.depth c.requires.short c.utf8.text c.requires.spelt c.requires.depth c.if-reading-gt-DEPTH_LIMIT.true

pub returns-then-breaks_limit : goal.returns-then-breaks_limit
returns-then-breaks_limit c = search (arith, refused_number, not_deep, applies_at)

pub returns-then-lone : goal.returns-then-lone
returns-then-lone c = refused_lone c.args.text.now c.requires.short c.utf8.text c.requires.spelt
    (not_deep c.args.text.now c.args.reading.now.depth c.requires.depth c.if-reading-gt-DEPTH_LIMIT.false)
    (applies_not NumberLimit c.args.text.now c.as_bytes.result.now _ c.as_bytes.ensures.value c.breaks_limit.ensures c.if-breaks_limit.false)
    ((lone_applies c.args.text.now c.args.lone c.requires.spelt c.requires.lone).0 c.if-lone.true)

pub order_names-requires-clause-paired : goal.order_names-requires-clause-paired
order_names-requires-clause-paired c = not_lone c.args.text.now c.args.lone c.requires.spelt c.requires.lone c.if-lone.false

pub returns-in-Ok-None : goal.returns-in-Ok-None
returns-in-Ok-None c = refused_twice c.args.text.now c.requires.short c.utf8.text c.requires.spelt
    (not_deep c.args.text.now c.args.reading.now.depth c.requires.depth c.if-reading-gt-DEPTH_LIMIT.false)
    (applies_not NumberLimit c.args.text.now c.as_bytes.result.now _ c.as_bytes.ensures.value c.breaks_limit.ensures c.if-breaks_limit.false)
    (not_lone c.args.text.now c.args.lone c.requires.spelt c.requires.lone c.if-lone.false)
    (rw c.in-Ok-None.field-0-is at c.in-Ok-None.ensures)

pub returns-in-Ok-Some : goal.returns-in-Ok-Some
returns-in-Ok-Some c = let found = rw c.in-Ok-Some.field-0-is at c.in-Ok-Some.ensures in (
  faultless c.args.text.now c.requires.short c.utf8.text c.requires.spelt
      (not_deep c.args.text.now c.args.reading.now.depth c.requires.depth c.if-reading-gt-DEPTH_LIMIT.false)
      (applies_not NumberLimit c.args.text.now c.as_bytes.result.now _ c.as_bytes.ensures.value c.breaks_limit.ensures c.if-breaks_limit.false)
      (not_lone c.args.text.now c.args.lone c.requires.spelt c.requires.lone c.if-lone.false)
      found.0,
  found.1,
)
