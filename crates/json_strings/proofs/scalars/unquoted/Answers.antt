use Rattle.std.proofs.Common.{◌+◌, ◌-◌, arith}
use Rattle.std.proofs.lemmas.Str.{IsCharBoundary-after_ascii, IsCharBoundary-before_ascii}
use Rattle.json_strings.proofs.scalars.unquoted.Goals as goal

pub range-requires-clause-start_boundary : goal.range-requires-clause-start_boundary
range-requires-clause-start_boundary c = λ _. IsCharBoundary-after_ascii c.args.text.now c.args.string.start c.utf8.text (let r = c.requires in omega arith) (let r = c.requires.2 in omega arith)

pub range-requires-clause-end_boundary : goal.range-requires-clause-end_boundary
range-requires-clause-end_boundary c = IsCharBoundary-before_ascii c.args.text.now (c.args.string.start + c.args.string.len - 1) (let r = c.requires in omega arith) (let r = c.requires.3 in omega arith)
