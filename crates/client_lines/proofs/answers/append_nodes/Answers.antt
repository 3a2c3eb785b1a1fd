use Rattle.std.proofs.Common.{rules}
use Rattle.client_lines.proofs.Paths.{refused_node}
use Rattle.client_lines.proofs.answers.append_nodes.Goals as goal

pub returns-in-Err-clause-refused : goal.returns-in-Err-clause-refused
returns-in-Err-clause-refused c = refused_node c.args.name.bytes.now c.args.document.now c.args.nodes.now c.loop-node.node-index _ c.in-Err.fault (search rules) c.loop-node.invariant.1 c.in-Err.ensures.refused
