use Rattle.std.proofs.Common.{arith}
use Rattle.json_tape.specs.Document.{node_at}
use Rattle.normal_paths.proofs.PathSizes.{path_short, root_path}
use Rattle.normal_paths.proofs.path.path_length.Goals as goal

pub returns-clause-short : goal.returns-clause-short
returns-clause-short c =
    let short = path_short (node_at c.args.doc.now c.args.node.0) c.args.doc.now.text (c.ways_are_short.ensures.way c.args.node.0 c.requires) c.ways_are_short.ensures.text in
    let rest = root_path (node_at c.args.doc.now c.loop-parent.last.0) c.in_default.ensures.node in
    omega (arith, c.loop-parent.invariant.whole)
