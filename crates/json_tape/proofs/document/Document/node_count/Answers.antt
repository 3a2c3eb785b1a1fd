use Rattle.std.proofs.Common.{arith}
use Rattle.json_tape.proofs.Readers.{is_document, counts, some_entry, size_of_document, small_count}
use Rattle.json_tape.proofs.document.Document.node_count.Goals as goal

pub returns : goal.returns
returns c = let k = counts _ c.args.self.now c.self.view_is in let d = is_document _ c.args.self.now c.self.view_is c.self.invariant.0 in
    let z = some_entry c.args.self.now d in let m = small_count c.args.self.now d in let t = size_of_document c.args.self.now d in
    record { size = omega (arith, k, t, c.len.ensures.value); value = omega (arith, k, c.len.ensures.value); some = omega (arith, k, z, c.len.ensures.value); small = omega (arith, k, m, c.len.ensures.value) }
