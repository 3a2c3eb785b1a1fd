use Rattle.std.proofs.Common.{length, ap, arith, ◌∷◌, reverse}
use Rattle.json_tape.specs.Document.{node_at}
use Rattle.normal_paths.specs.Ways.{way_text}
use Rattle.normal_paths.proofs.PathSizes.{path_short, appended}
use Rattle.normal_paths.proofs.path.write_path.Goals as goal

pub returns-else-is_err-clause-short : goal.returns-else-is_err-clause-short
returns-else-is_err-clause-short c =
    let short = path_short (node_at c.args.doc.now c.args.node.0) c.args.doc.now.text (c.ways_are_short.ensures.way c.args.node.0 c.requires) c.ways_are_short.ensures.text in
    let path = ap length c.in_ok-way.ensures.path in
    let written = appended c.write_way-written.result c.write_way-written.new.out.items c.args.out.now.items (36 ∷ way_text c.args.doc.now (reverse c.in_ok-way.way.items)) c.write_way-written.ensures.written c.if-is_err.ensures.value in
    omega arith
