-- The value of a node that was found, or Nothing.
use Rattle.std.specs.Prelude.{Option, Some, None}
use Rattle.json_tape.specs.Document.{Doc, node_at}
use Rattle.json_text.specs.declared.tape.NodeId.{NodeId}
use Rattle.tape_values.specs.Comparison.{Value, value_of}

abbrev pub value_found : Doc → Option NodeId → Option Value
value_found d None = None
value_found d (Some n) = Some (value_of (node_at d n.0).tree)
