use Rattle.json_tape.specs.Document.{tree_of}
use Rattle.tenant_map.proofs.Refusing.{put_refused, put_keeps}
use Rattle.tenant_map.proofs.tenant.Tenant.put.Goals as goal

pub returns-in-Ok-clause-refused : goal.returns-in-Ok-clause-refused
returns-in-Ok-clause-refused c =
    put_keeps c.args.collection.bytes.now c.args.document.bytes.now c.in-Ok.read.text c.args.text.now c.args.self.now c.keep.result c.in-Ok.ensures.text
    (tree_of c.in-Ok.read, c.in-Ok.ensures.accepted) c.keep.ensures.refused

pub returns-in-Err-clause-refused : goal.returns-in-Err-clause-refused
returns-in-Err-clause-refused c = put_refused c.in-Err.fault c.args.collection.bytes.now c.args.document.bytes.now c.args.text.now c.args.self.now c.in-Err.ensures.refused
